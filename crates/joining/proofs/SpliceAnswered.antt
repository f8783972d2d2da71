-- What is answered to `splice`, from what was promised of the call.
use Rattle.std.proofs.Common.{◌≡◌, ℕ, ◌<◌, List, [], ◌∷◌, length, Option, Some, None, Result, Ok, Err, false, refl, sym, ap, subst, ◌∙◌, inl, inr}
use Rattle.std.specs.Prelude.{◌≢◌}
use Rattle.std.specs.Io.KnownBytes.{append_known}
use Rattle.timeline.specs.declared.fault.PlanFault.{PlanFault}
use Rattle.timeline.specs.Order.{order_result}
use Rattle.splicer.specs.declared.fault.SpliceFault.TheVariants.{Plan}
use Rattle.splicer.proofs.Pieces.{gives_sound_pieces}
use Rattle.splicer.proofs.Plans.{give_sound_plans}
use Rattle.outside.specs.declared.shelf.Shelf
use Rattle.outside.specs.declared.sink.Sink
use Rattle.core_iface.specs.declared.cores.Core
use Rattle.core_iface.specs.Decoding.{Definitions}
use Rattle.tool_text.specs.declared.refusal.Refusal.{Refusal}
use Rattle.tool_text.specs.declared.refusal.Within.TheVariants as inputs
use Rattle.tool_text.specs.RefusalText.{refusal_text}
use Rattle.au_stream.specs.Canonical.{bytes_of_handed}
use Rattle.au_stream.specs.Script.{Mark, End, SyncLost, BadElement, Truncated, TooLarge}
use Rattle.commands.specs.declared.outcome.Outcome.{Outcome}
use Rattle.commands.specs.declared.outcome.Outcome.TheVariants as is
use Rattle.commands.specs.Calling.{Effect, Called, AreHeld}
use Rattle.commands.specs.Doing.{IsRefusedBy}
use Rattle.commands.specs.Ending.{Traces, refusal_of_mark}
use Rattle.commands.specs.OnInputs.{ServesInputs, several, on_inputs}
use Rattle.commands.specs.Ran.{Notes, Noted, Ran, CausesOf, status_of, text_of}
use Rattle.commands.specs.Worlds.{world, traces}
use Rattle.commands.proofs.Going.{append-none}
use Rattle.commands.proofs.Rans.{told_status, read_outcome}
use Rattle.playing.specs.FileAnswers.{WroteBytes}
use Rattle.playing.proofs.FileAnswers.{IsNoFault, none_rose, calm_well}
use Rattle.joining.specs.Refusals.{refusal_of_plan, refusal_of_splice}
use Rattle.joining.specs.Renditions.{PieceAt, next_at}
use Rattle.joining.specs.Planning.{first_at, piece_in, where_ordered}
use Rattle.joining.specs.Events.{FileScript, Rule, AtMark, NotRead, order_event, AreScripts}
use Rattle.joining.specs.Answers.{NotesRefusal, TellsMark, IsDecided, AreCutShort, GoesWell, NoEventIsAPlan}
use Rattle.joining.specs.Splicing.{refusal_of_halt, splicing, splices_files}
use Rattle.joining.specs.SpliceEvents.{Stop, AtFrame, Behind, or_stop, stop_behind, unless, files_stop, files_handed, first_stop, splice_bytes}
use Rattle.joining.specs.SpliceAnswers.{TellsStop, TellsFirstStop, IsReadTo, TellsReadTo, SplicesSoundly, NoStopIsASplice}
use Rattle.joining.proofs.Told.{IsOwn}
use Rattle.joining.proofs.Answered.{first_comes, own_end, not_memory, settled, settled_read, decided_or_memory, held_long, all_held}
use Rattle.joining.proofs.NoLongFrame.{no_stop_is_a_plan}
use Rattle.joining.proofs.SpliceTold.{SaysStop, IsReason, walked, cut_short}

-- ---- an outcome, as a stop

module _ (n : Notes) (status : ℕ) where
  -- the line of a refusal
  notes : (k piece : ℕ) (why : Option Refusal) (r : Refusal) → piece ≡ k → why ≡ Some r → Noted n (refusal_text (Some (inputs.Piece k)) r) → NotesRefusal n piece why
  notes k piece why r same e noted = subst (λ (p : ℕ). NotesRefusal n p why) (sym same) (subst (NotesRefusal n k) (sym e) noted)

  tells_mark : (k piece : ℕ) (m : Mark) (r : Refusal) → piece ≡ k → refusal_of_mark m ≡ Some r → status ≡ 1 → Noted n (refusal_text (Some (inputs.Piece k)) r) → TellsMark n status piece m
  tells_mark k piece End r same e one noted = absurd cc
  tells_mark k piece (SyncLost byte) r same e one noted = (one, notes k piece _ r same e noted)
  tells_mark k piece (BadElement frame fault) r same e one noted = (one, notes k piece _ r same e noted)
  tells_mark k piece (Truncated byte) r same e one noted = (one, notes k piece _ r same e noted)
  tells_mark k piece TooLarge r same e one noted = absurd cc

  tells_reason : (k : ℕ) (r : Refusal) (by : Stop) → IsReason k r by → status ≡ 1 → Noted n (refusal_text (Some (inputs.Piece k)) r) → TellsStop n status (Some by)
  tells_reason k r (AtFrame piece halt) h one noted = (one, notes k piece (refusal_of_halt halt) r h.0 h.1 noted)
  tells_reason k r (Behind (Rule piece fault)) h one noted = (one, notes k piece (refusal_of_splice fault) r h.0 h.1 noted)
  tells_reason k r (Behind (AtMark piece mark)) h one noted = tells_mark k piece mark r h.0 h.1 one noted
  tells_reason k r (Behind NotRead) h one noted = absurd h

  stop_is : (stop other : Option Stop) → stop ≡ other → TellsStop n status other → TellsStop n status stop
  stop_is stop other e h = subst (TellsStop n status) (sym e) h

  tells : (o : Outcome) (stop : Option Stop) → SaysStop o stop → status ≡ status_of o → Noted n (text_of o) → (status ≡ 0 → n.after ≡ n.before) → TellsStop n status stop
  tells is.Done stop h same noted quiet = stop_is stop None h (same, quiet same)
  tells (is.Refused words) stop h same noted quiet = stop_is stop (Some h.by) h.is (tells_reason h.piece h.reason h.by h.why same (subst (Noted n) h.words_are noted))
  tells is.ReadFault stop h same noted quiet = absurd h
  tells is.WriteFault stop h same noted quiet = absurd h
  tells is.CoreFault stop h same noted quiet = absurd h
  tells (is.Memory e) stop h same noted quiet = absurd h
  tells is.TooLarge stop h same noted quiet = stop_is stop _ h.1 (same, noted)

-- ---- the effect

module _ (d : Definitions) (positions : List ℕ) (texts taken : List (List ℕ)) (t : Traces) where
  abbrev pub walking : Effect
  walking = on_inputs (several (splicing d) next_at false) (first_at positions)

  -- Where the positions rise, the files decide; else their fault does.
  with_order : (q : Result (Unit {0}) PlanFault) → order_result positions ≡ q → (ss : List FileScript) → first_stop d.warm positions ss ≡ or_stop (stop_behind (order_event q)) (files_stop d.warm 0 None positions ss)
  with_order q e ss = ap (λ (x : Result (Unit {0}) PlanFault). or_stop (stop_behind (order_event x)) (files_stop d.warm 0 None positions ss)) e

  lines_with : (q : Result (Unit {0}) PlanFault) → order_result positions ≡ q → (ss : List FileScript) → splice_bytes d.warm positions ss ≡ bytes_of_handed (unless (order_event q) (files_handed d.warm 0 None positions ss))
  lines_with q e ss = ap (λ (x : Result (Unit {0}) PlanFault). bytes_of_handed (unless (order_event x) (files_handed d.warm 0 None positions ss))) e

  refused_order : (fault : PlanFault) (ev : Option Stop) → ev ≡ Some (Behind (Rule (piece_in fault) (Plan fault))) → (o : Outcome) → IsOwn o → IsRefusedBy (Some (inputs.Piece (piece_in fault))) (refusal_of_plan fault) o → SaysStop o ev
  refused_order fault ev e is.Done own h = absurd h
  refused_order fault ev e (is.Refused words) own h = record { piece = piece_in fault; reason = h.0; words_are = h.2; by = Behind (Rule (piece_in fault) (Plan fault)); is = e; why = (refl, h.1) }
  refused_order fault ev e is.ReadFault own h = absurd h
  refused_order fault ev e is.WriteFault own h = absurd h
  refused_order fault ev e is.CoreFault own h = absurd h
  refused_order fault ev e (is.Memory x) own h = absurd own
  refused_order fault ev e is.TooLarge own h = absurd h

  says_first : (q : Result (Unit {0}) PlanFault) → order_result positions ≡ q → (o : Outcome) → IsOwn o → (let x = where_ordered q walking in x.Does texts taken t o) → length positions ≡ length texts → (ss : List FileScript) → AreScripts texts ss
      → SaysStop o (first_stop d.warm positions ss) × WroteBytes t (splice_bytes d.warm positions ss)
  says_first (Err fault) e o own h long ss are = (
    refused_order fault _ (with_order (Err fault) e ss) o own h.2,
    (let id = h.1 in id.written) ∙ (append-none t.written_before ∙ ap (append_known t.written_before) (sym (lines_with (Err fault) e ss))),
  )
  says_first (Ok x) e o own h long ss are =
      let w = walked d (first_at positions) positions texts taken ss t o (first_comes positions) long are own h in (
        subst (SaysStop o) (sym (with_order (Ok x) e ss)) w.says,
        w.wrote ∙ ap (append_known t.written_before) (sym (lines_with (Ok x) e ss)),
      )

  not_refused_read : (fault : PlanFault) → IsRefusedBy (Some (inputs.Piece (piece_in fault))) (refusal_of_plan fault) is.ReadFault → ⊥
  not_refused_read fault h = h

  reads_on : (q : Result (Unit {0}) PlanFault) → order_result positions ≡ q → (let x = where_ordered q walking in x.Does texts taken t is.ReadFault) → length positions ≡ length texts
      → (ss : List FileScript) × AreCutShort texts taken ss × IsReadTo (first_stop d.warm positions ss) × WroteBytes t (splice_bytes d.warm positions ss)
  reads_on (Err fault) e h long = absurd h.2
  reads_on (Ok x) e h long =
      let w = cut_short d (first_at positions) positions texts taken t (first_comes positions) long h in
      (w.0, w.1, subst IsReadTo (sym (with_order (Ok x) e w.0)) w.2.says, w.2.wrote ∙ ap (append_known t.written_before) (sym (lines_with (Ok x) e w.0)))

  -- it asks no more of the core than its warm-up
  serves_walk : (at : PieceAt) (xs : List (List ℕ)) → ServesInputs (several (splicing d) next_at false) at xs
  serves_walk at [] = tt
  serves_walk at (x ∷ xs) = ((λ before f takes. tt), (λ next leads. serves_walk next xs))

  serves : (q : Result (Unit {0}) PlanFault) → (let x = where_ordered q walking in x.Serves texts)
  serves (Err fault) = tt
  serves (Ok x) = serves_walk (first_at positions) texts

-- ---- the answer

module _ {H K C : Type 0} (h : Shelf.Ghosts H) (k : Sink.Ghosts K) (g : Core.Ghosts C) (d : Definitions) (law : NoEventIsAPlan) (splice_law : NoStopIsASplice) (positions : List ℕ) (names texts : List (List ℕ)) (s0 s1 : H) (o0 o1 : K) (c0 c1 : C) (n : Notes) (status : ℕ) where
  pub splices_soundly : (status < 8) × (status ≢ 2) → length positions ≡ length names → Ran k (splices_files d positions) names (world h k g s0 o0 c0) (λ sink. world h k g s1 sink c1) o1 n status
      → CausesOf (world h k g s0 o0 c0).faults (world h k g s1 o1 c1).faults status → AreHeld (h.bytes s0) names texts → SplicesSoundly d positions names texts (world h k g s0 o0 c0) (world h k g s1 o1 c1) n status
  splices_soundly few each ran causes held = record {
    taken = called.taken;
    from = called.from;
    answers = record { decided = decided; read = read; planned = λ ss are. no_stop_is_a_plan law give_sound_plans gives_sound_pieces d.warm positions texts ss are long };
    carries = λ some ss are none few. splice_law d.warm positions texts ss are long some none few;
    complete = λ well. decided_or_memory status few.0 few.1 (no_fault well);
  }
    where
      called : Called (splices_files d positions) names (world h k g s0 o0 c0) (world h k g s1 ran.behind c1) ran.outcome
      called = ran.called

      ended : Outcome
      ended = ran.finished.ended

      t : Traces
      t = traces (world h k g s0 o0 c0) (world h k g s1 o1 c1)

      long : length positions ≡ length texts
      long = each ∙ held_long (h.bytes s0) names texts held

      trace : Option (List ℕ) → Traces
      trace w = record { written_before = k.written o0; written_after = w; fed_before = (g.meaning c0).fed; fed_after = (g.meaning c1).fed }

      written : (k.written o1) ≡ k.written ran.behind
      written = ran.finished.flushed.written

      does : (o : Outcome) → ran.outcome ≡ o → (let x = where_ordered (order_result positions) (on_inputs (several (splicing d) next_at false) (first_at positions)) in x.Does texts called.taken t o)
      does o e = subst (λ (w : Option (List ℕ)). let x = where_ordered (order_result positions) (on_inputs (several (splicing d) next_at false) (first_at positions)) in x.Does texts called.taken (trace w) o) (sym written)
          (subst (λ (y : Outcome). let x = where_ordered (order_result positions) (on_inputs (several (splicing d) next_at false) (first_at positions)) in x.Does texts called.taken (trace (k.written ran.behind)) y) e (called.does texts held))

      decided : IsDecided status → (ss : List FileScript) → AreScripts texts ss → TellsFirstStop d positions ss t n status
      decided own_status ss are =
          let told = told_status n ended status status ran.finished.reported refl (not_memory own_status) in
          let own = own_end ended status (sym told.0) own_status in
          let same = settled _ _ ran.outcome ended ran.finished.flushed.settles own in
          let x = says_first d positions texts called.taken t (order_result positions) refl ended own (does ended (sym same)) long ss are in
          record { stop = tells n status ended _ x.0 (sym told.0) told.1 (λ z. (ran.finished.noted.done z).0); wrote = x.1 }

      read : status ≡ 3 → TellsReadTo d positions texts called.taken t n
      read three =
          let at_read = read_outcome n ended status ran.finished.reported three in
          let o = settled_read _ _ ran.outcome ended ran.finished.flushed.settles at_read in
          let x = reads_on d positions texts called.taken t (order_result positions) refl (does is.ReadFault o) long in
          record { scripts = x.0; cut = x.1; on = x.2; wrote = x.3; noted = ran.finished.noted.read three }

      no_fault : GoesWell (world h k g s0 o0 c0) (world h k g s1 o1 c1) → IsNoFault status
      no_fault (inl calm) = calm_well h k g (splices_files d positions) names texts s0 s1 o0 ran.behind o1 c0 c1 n status ran.outcome ended called ran.finished.flushed.settles ran.finished.flushed.calm_writes ran.finished.reported
          (all_held (h.bytes s0) names texts held) held (serves d positions texts called.taken t (order_result positions)) calm.0 calm.1 calm.2
      no_fault (inr none) = none_rose _ _ status none causes
