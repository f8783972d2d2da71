-- What is answered to `switch`, from what was promised of the call.
use Rattle.std.proofs.Common.{◌≡◌, ℕ, ◌<◌, List, [], ◌∷◌, length, Option, None, Result, Ok, Err, true, refl, sym, ap, subst, ◌∙◌, arith, ◌++◌, inl, inr}
use Rattle.std.specs.Prelude.{◌≢◌, All}
use Rattle.std.specs.Io.KnownBytes.{append_known}
use Rattle.std.proofs.lemmas.List.{append-nil}
use Rattle.std.proofs.lemmas.List.Elements.{All-head, All-tail}
use Rattle.timeline.specs.declared.fault.PlanFault.{PlanFault}
use Rattle.timeline.specs.Order.{order_result}
use Rattle.outside.specs.declared.shelf.Shelf
use Rattle.outside.specs.declared.sink.Sink
use Rattle.core_iface.specs.declared.cores.Core
use Rattle.core_iface.specs.Decoding.{Definitions}
use Rattle.au_stream.specs.Frames.{Frame}
use Rattle.au_stream.specs.Script.{HasFrames}
use Rattle.commands.specs.declared.outcome.Outcome.{Outcome}
use Rattle.commands.specs.declared.outcome.Outcome.TheVariants as is
use Rattle.commands.specs.Calling.{Called, AreHeld}
use Rattle.commands.specs.Commands.{work}
use Rattle.commands.specs.Ending.{Traces, WroteAll, WroteBefore}
use Rattle.commands.specs.OnInputs.{ServesInputs, several}
use Rattle.commands.specs.Ran.{Notes, Noted, Ran, CausesOf, IsMemory, Settles}
use Rattle.commands.specs.Texts.{core_text}
use Rattle.commands.specs.Worlds.{world, traces}
use Rattle.commands.proofs.Rans.{told_status, read_outcome, core_outcome}
use Rattle.playing.specs.Playing.{playing, output_on, IsServed}
use Rattle.playing.proofs.FileAnswers.{IsNoFault, none_rose, calm_well}
use Rattle.playing.specs.Spliced.{plan_bytes}
use Rattle.joining.specs.Planning.{where_ordered}
use Rattle.joining.specs.Events.{FileScript, Event, or_event, order_event, first_event, files_event, AreScripts}
use Rattle.joining.specs.SpliceEvents.{unless}
use Rattle.joining.specs.Answers.{ArePlanned, TellsEvent, IsDecided, AreCutShort, IsReadOn, NoEventIsAPlan}
use Rattle.joining.proofs.Answered.{tells, refused_order, own_end, not_memory, settled, settled_read, decided_or_memory, held_long, all_held}
use Rattle.joining.proofs.SpliceEvents.{unless_none}
use Rattle.joining.proofs.Told.{Says, IsOwn}
use Rattle.switching.specs.CutShort.{files_given, all_given, plan_cut_short}
use Rattle.switching.specs.PlayedPlan.{PlaysBeforeEvents}
use Rattle.switching.specs.SwitchAnswers.{WrotePlan, TellsFirst, TellsRead, TellsCore, with_frame, WroteWhole, AreServed, PlaysWell, SwitchesSoundly}
use Rattle.switching.specs.Switching.{SwitchAt, switching, begins_at, next_at, switches_files}
use Rattle.switching.proofs.AsPlay.{plays_none}
use Rattle.switching.proofs.Calls.{switched}
use Rattle.switching.proofs.CoreTold.{Failed, failed_core}
use Rattle.switching.proofs.CutPlans.{AllFine}
use Rattle.switching.proofs.Fine.{scripts_fine, cut_fine, reached_fine}
use Rattle.switching.proofs.PlayedPlan.{first_comes, output_both}
use Rattle.switching.proofs.SwitchTold.{walked, cut_short}

-- ---- the effect

module _ (d : Definitions) (positions : List ℕ) (texts taken : List (List ℕ)) (t : Traces) where
  -- the frames that were given were played
  abbrev Played : List FileScript → Type 0
  Played ss = WroteAll (playing d []) (all_given d.warm positions ss) t

  -- Where the positions rise, the files decide; else their fault does.
  with_order : (q : Result (Unit {0}) PlanFault) → order_result positions ≡ q → (ss : List FileScript) → first_event d.warm positions ss ≡ or_event (order_event q) (files_event d.warm 0 None positions ss)
  with_order q e ss = ap (λ (x : Result (Unit {0}) PlanFault). or_event (order_event x) (files_event d.warm 0 None positions ss)) e

  played_with : (q : Result (Unit {0}) PlanFault) → order_result positions ≡ q → (ss : List FileScript) → WroteAll (playing d []) (unless (order_event q) (files_given d.warm 0 None positions ss)) t → Played ss
  played_with q e ss = subst (λ (x : Result (Unit {0}) PlanFault). WroteAll (playing d []) (unless (order_event x) (files_given d.warm 0 None positions ss)) t) (sym e)

  says_first : (q : Result (Unit {0}) PlanFault) → order_result positions ≡ q → (o : Outcome) → IsOwn o → (where_ordered q (switched d positions)).Does texts taken t o → length positions ≡ length texts → (ss : List FileScript) → AreScripts texts ss
      → Says o (first_event d.warm positions ss) × Played ss
  says_first (Err fault) e o own h long ss are = (
    refused_order d positions texts taken t fault _ (with_order (Err fault) e ss) o own h.2,
    played_with (Err fault) e ss (plays_none d [] t h.1),
  )
  says_first (Ok x) e o own h long ss are =
      let w = walked d (begins_at positions) positions texts taken ss t o (first_comes positions) long are own h in
      (subst (Says o) (sym (with_order (Ok x) e ss)) w.says, played_with (Ok x) e ss w.played)

  reads_on : (q : Result (Unit {0}) PlanFault) → order_result positions ≡ q → (where_ordered q (switched d positions)).Does texts taken t is.ReadFault → length positions ≡ length texts
      → (ss : List FileScript) × AreCutShort texts taken ss × IsReadOn (first_event d.warm positions ss) × Played ss
  reads_on (Err fault) e h long = absurd h.2
  reads_on (Ok x) e h long =
      let w = cut_short d (begins_at positions) positions texts taken t (first_comes positions) long h in
      (w.0, w.1, subst IsReadOn (sym (with_order (Ok x) e w.0)) w.2.says, played_with (Ok x) e w.0 w.2.played)

  -- a core that failed
  core_failed : (q : Result (Unit {0}) PlanFault) → order_result positions ≡ q → (where_ordered q (switched d positions)).Does texts taken t is.CoreFault → length positions ≡ length texts → (order_event q ≡ None) × Failed d (begins_at positions) positions texts taken t
  core_failed (Err fault) e h long = absurd h.2
  core_failed (Ok x) e h long = (refl, failed_core d (begins_at positions) positions texts taken t (first_comes positions) long h)

  -- a frame within others
  served_at : (before later : List Frame) (f : Frame) → All (IsServed d) ((before ++ f ∷ []) ++ later) → IsServed d f
  served_at [] later f all = All-head (IsServed d) f later all
  served_at (g ∷ before) later f all = served_at before later f (All-tail (IsServed d) g ((before ++ f ∷ []) ++ later) all)

  -- a core that serves the files serves what `switch` plays of them
  serves_walk : (at : SwitchAt) (xs : List (List ℕ)) → AreServed d xs → ServesInputs (several (switching d) next_at true) at xs
  serves_walk at [] all = tt
  serves_walk at (x ∷ xs) all =
      let Served : List ℕ → Type 0 = λ text. (frames : List Frame) → HasFrames text frames → All (IsServed d) frames in
      let here = All-head Served x xs all in
      ((λ before f takes given. served_at before takes.later f (here ((before ++ f ∷ []) ++ takes.later) takes.of_file)), (λ next leads. serves_walk next xs (All-tail Served x xs all)))

  serves : (q : Result (Unit {0}) PlanFault) → AreServed d texts → (where_ordered q (switched d positions)).Serves texts
  serves (Err fault) all = tt
  serves (Ok x) all = serves_walk (begins_at positions) texts all

  -- so the plan was written up to the event
  plan_written : PlaysBeforeEvents d → (ss : List FileScript) → AllFine ss → Played ss → WrotePlan d positions ss t
  plan_written plays ss fine h =
      let plan = plays.cut positions ss fine in
      let frames = all_given d.warm positions ss in
      let bytes : output_on d [] frames ≡ plan_bytes d (plan_cut_short d.warm positions ss) = sym (output_both d [] frames) ∙ plan.bytes in
      record { plan = plan; wrote = h.written ∙ ap (append_known t.written_before) bytes; fed = h.fed }

  tells_core : PlaysBeforeEvents d → order_event (order_result positions) ≡ None → Failed d (begins_at positions) positions texts taken t → (n : Notes) → Noted n core_text → TellsCore d positions texts taken t n
  tells_core plays rise h n noted =
      let ordered : (ss : List FileScript) → all_given d.warm positions ss ≡ files_given d.warm 0 None positions ss = λ ss. unless_none (order_event (order_result positions)) (files_given d.warm 0 None positions ss) rise in
      let with = with_frame h.scripts h.failed in
      let event : first_event d.warm positions with ≡ files_event d.warm 0 None positions with = ap (λ (o : Option Event). or_event o (files_event d.warm 0 None positions with)) rise in
      let given : all_given d.warm positions with ≡ all_given d.warm positions h.scripts ++ h.failed ∷ [] = ordered with ∙ (h.given ∙ ap (λ (gs : List Frame). gs ++ h.failed ∷ []) (sym (ordered h.scripts))) in
      let plan = plays.cut positions h.scripts (reached_fine texts taken h.scripts h.failed h.reached) in
      let wrote = subst (λ (gs : List Frame). WroteBefore (playing d []) gs h.failed t) (sym (ordered h.scripts)) h.wrote in
      let frames = all_given d.warm positions h.scripts in
      let bytes : output_on d [] frames ++ [] ≡ plan_bytes d (plan_cut_short d.warm positions h.scripts) = append-nil (output_on d [] frames) ∙ (sym (output_both d [] frames) ∙ plan.bytes) in
      record {
        scripts = h.scripts;
        failed = h.failed;
        reached = h.reached;
        on = subst IsReadOn (sym event) h.on;
        given = given;
        plan = plan;
        wrote = wrote.written ∙ ap (append_known t.written_before) bytes;
        fed = wrote.fed;
        less = let units = ap (λ (gs : List Frame). work (playing d []) gs) given in omega (arith, wrote.less, units);
        noted = noted;
      }

-- ---- the answer

settled_core : (a b : ℕ) (o ended : Outcome) → Settles a b o ended → ended ≡ is.CoreFault → o ≡ is.CoreFault
settled_core a b o ended (inl (same, e)) h = sym e ∙ h
settled_core a b o ended (inr (inl (not, rose, e))) h = absurd (let never : is.WriteFault ≡ is.CoreFault = sym e ∙ h in cc)
settled_core a b o ended (inr (inr (same, m))) h = absurd (subst IsMemory h m)

module _ {H K C : Type 0} (h : Shelf.Ghosts H) (k : Sink.Ghosts K) (g : Core.Ghosts C) (d : Definitions) (law : NoEventIsAPlan) (plays : PlaysBeforeEvents d) (positions : List ℕ) (names texts : List (List ℕ)) (s0 s1 : H) (o0 o1 : K) (c0 c1 : C) (n : Notes) (status : ℕ) where
  pub switches_soundly : (status < 8) × (status ≢ 2) → length positions ≡ length names → Ran k (switches_files d positions) names (world h k g s0 o0 c0) (λ sink. world h k g s1 sink c1) o1 n status
      → CausesOf (world h k g s0 o0 c0).faults (world h k g s1 o1 c1).faults status → AreHeld (h.bytes s0) names texts → SwitchesSoundly d positions names texts (world h k g s0 o0 c0) (world h k g s1 o1 c1) n status
  switches_soundly few each ran causes held = record {
    taken = called.taken;
    from = called.from;
    answers = record { decided = decided; read = read; core = core; planned = λ ss are. law d.warm positions texts ss are long; whole = whole };
    complete = λ well. decided_or_memory status few.0 few.1 (no_fault well);
  }
    where
      called : Called (switches_files d positions) names (world h k g s0 o0 c0) (world h k g s1 ran.behind c1) ran.outcome
      called = ran.called

      ended : Outcome
      ended = ran.finished.ended

      t : Traces
      t = traces (world h k g s0 o0 c0) (world h k g s1 o1 c1)

      long : length positions ≡ length texts
      long = each ∙ held_long (h.bytes s0) names texts held

      trace : Option (List ℕ) → Traces
      trace w = record { written_before = k.written o0; written_after = w; fed_before = (g.meaning c0).fed; fed_after = (g.meaning c1).fed }

      written : (k.written o1) ≡ k.written ran.behind
      written = ran.finished.flushed.written

      does : (o : Outcome) → ran.outcome ≡ o → (where_ordered (order_result positions) (switched d positions)).Does texts called.taken t o
      does o e = subst (λ (w : Option (List ℕ)). (where_ordered (order_result positions) (switched d positions)).Does texts called.taken (trace w) o) (sym written)
          (subst (λ (y : Outcome). (where_ordered (order_result positions) (switched d positions)).Does texts called.taken (trace (k.written ran.behind)) y) e (called.does texts held))

      decided : IsDecided status → (ss : List FileScript) → AreScripts texts ss → TellsFirst d positions ss t n status
      decided own_status ss are =
          let told = told_status n ended status status ran.finished.reported refl (not_memory own_status) in
          let own = own_end ended status (sym told.0) own_status in
          let same = settled _ _ ran.outcome ended ran.finished.flushed.settles own in
          let x = says_first d positions texts called.taken t (order_result positions) refl ended own (does ended (sym same)) long ss are in
          record {
            event = tells n status ended _ x.0 (sym told.0) told.1 (λ z. (ran.finished.noted.done z).0);
            played = plan_written d positions texts called.taken t plays ss (scripts_fine texts ss are) x.1;
          }

      whole : IsDecided status → (ss : List FileScript) → AreScripts texts ss → (plan : ArePlanned d.warm positions ss) → WroteWhole d t status plan.parts
      whole own_status ss are plan =
          let x = decided own_status ss are in
          let none = (law d.warm positions texts ss are long).1 plan in
          record { status_is = (subst (TellsEvent n status) none x.event).0; wrote = x.played.wrote ∙ ap (append_known t.written_before) (plays.whole positions ss (scripts_fine texts ss are) plan) }

      read : status ≡ 3 → TellsRead d positions texts called.taken t n
      read three =
          let at_read = read_outcome n ended status ran.finished.reported three in
          let o = settled_read _ _ ran.outcome ended ran.finished.flushed.settles at_read in
          let x = reads_on d positions texts called.taken t (order_result positions) refl (does is.ReadFault o) long in
          record { scripts = x.0; cut = x.1; on = x.2; played = plan_written d positions texts called.taken t plays x.0 (cut_fine texts called.taken x.0 x.1) x.3; noted = ran.finished.noted.read three }

      no_fault : PlaysWell d texts (world h k g s0 o0 c0) (world h k g s1 o1 c1) → IsNoFault status
      no_fault (inl calm) = calm_well h k g (switches_files d positions) names texts s0 s1 o0 ran.behind o1 c0 c1 n status ran.outcome ended called ran.finished.flushed.settles ran.finished.flushed.calm_writes ran.finished.reported
          (all_held (h.bytes s0) names texts held) held (serves d positions texts called.taken t (order_result positions) calm.3) calm.0 calm.1 calm.2
      no_fault (inr none) = none_rose _ _ status none causes

      core : status ≡ 5 → TellsCore d positions texts called.taken t n
      core five =
          let at_core = core_outcome n ended status ran.finished.reported five in
          let o = settled_core _ _ ran.outcome ended ran.finished.flushed.settles at_core in
          let x = core_failed d positions texts called.taken t (order_result positions) refl (does is.CoreFault o) long in
          tells_core d positions texts called.taken t plays x.0 x.1 n (ran.finished.noted.core five)
