-- What is answered to `plan`, from what was promised of the call.
use Rattle.std.proofs.Common.{◌≡◌, ℕ, zero, suc, ◌<◌, List, [], ◌∷◌, length, Option, Some, None, Result, Ok, Err, false, refl, sym, ap, subst, ◌∙◌, arith, ◌⊎◌, inl, inr}
use Rattle.std.specs.Prelude.{◌≢◌, is_some}
use Rattle.std.specs.Io.KnownBytes.{append_known}
use Rattle.timeline.specs.declared.fault.PlanFault.{PlanFault}
use Rattle.timeline.specs.Order.{order_result}
use Rattle.splicer.specs.declared.fault.SpliceFault.TheVariants.{Plan}
use Rattle.outside.specs.declared.shelf.Shelf
use Rattle.outside.specs.declared.sink.Sink
use Rattle.core_iface.specs.declared.cores.Core
use Rattle.core_iface.specs.Decoding.{Definitions}
use Rattle.tool_text.specs.declared.refusal.Refusal.{Refusal}
use Rattle.tool_text.specs.declared.refusal.Within.TheVariants as inputs
use Rattle.tool_text.specs.RefusalText.{refusal_text}
use Rattle.au_stream.specs.Script.{Mark, End, SyncLost, BadElement, Truncated, TooLarge}
use Rattle.commands.specs.declared.outcome.Outcome.{Outcome}
use Rattle.commands.specs.declared.outcome.Outcome.TheVariants as is
use Rattle.commands.specs.Calling.{Effect, Called, AreHeld, AllHeld}
use Rattle.commands.specs.Doing.{IsRefusedBy}
use Rattle.commands.specs.Ending.{Traces, refusal_of_mark}
use Rattle.commands.specs.OnInputs.{ServesInputs, several, on_inputs}
use Rattle.commands.specs.Ran.{Notes, Noted, Ran, CausesOf, IsMemory, Settles, status_of, text_of}
use Rattle.commands.specs.Worlds.{world, traces}
use Rattle.commands.proofs.Going.{append-none}
use Rattle.commands.proofs.Rans.{told_status, read_outcome}
use Rattle.playing.specs.FileAnswers.{WroteBytes}
use Rattle.playing.proofs.FileAnswers.{IsNoFault, none_rose, calm_well}
use Rattle.joining.specs.Refusals.{refusal_of_plan}
use Rattle.joining.specs.Renditions.{PieceAt, next_at}
use Rattle.joining.specs.Planning.{planning, first_at, piece_in, where_ordered, plans_files}
use Rattle.joining.specs.Events.{FileScript, Event, Rule, or_event, order_event, first_event, files_event, files_lines, plan_lines, before_event, AreScripts}
use Rattle.joining.specs.Answers.{NotesRefusal, TellsMark, TellsEvent, IsDecided, TellsFirst, AreCutShort, IsReadOn, TellsRead, GoesWell, PlansSoundly, NoEventIsAPlan}
use Rattle.joining.proofs.Told.{Says, IsOwn, RefusedBy, Comes, walked, cut_short}

pub first_comes : (positions : List ℕ) → Comes (first_at positions) positions
first_comes [] = tt
first_comes (x ∷ positions) = refl

-- ---- an outcome, as an event

module _ (n : Notes) (status : ℕ) where
  notes_refusal : (k : ℕ) (why : Option Refusal) (r : Refusal) → why ≡ Some r → Noted n (refusal_text (Some (inputs.Piece k)) r) → NotesRefusal n k why
  notes_refusal k why r e noted = subst (NotesRefusal n k) (sym e) noted

  tells_mark : (k : ℕ) (m : Mark) (r : Refusal) → refusal_of_mark m ≡ Some r → status ≡ 1 → Noted n (refusal_text (Some (inputs.Piece k)) r) → TellsMark n status k m
  tells_mark k End r e one noted = absurd cc
  tells_mark k (SyncLost byte) r e one noted = (one, notes_refusal k _ r e noted)
  tells_mark k (BadElement frame fault) r e one noted = (one, notes_refusal k _ r e noted)
  tells_mark k (Truncated byte) r e one noted = (one, notes_refusal k _ r e noted)
  tells_mark k TooLarge r e one noted = absurd cc

  event_is : (ev other : Option Event) → ev ≡ other → TellsEvent n status other → TellsEvent n status ev
  event_is ev other e h = subst (TellsEvent n status) (sym e) h

  tells_refusal : (words : List ℕ) (ev : Option Event) → RefusedBy words ev → status ≡ 1 → Noted n words → TellsEvent n status ev
  tells_refusal words ev h one noted =
      let line = subst (Noted n) h.words_are noted in
      elim h.event [
        | inl x ↦ event_is ev _ x.1 (one, notes_refusal h.piece _ h.reason x.2 line)
        | inr x ↦ event_is ev _ x.1 (tells_mark h.piece x.0 h.reason x.2 one line)
      ]

  pub tells : (o : Outcome) (ev : Option Event) → Says o ev → status ≡ status_of o → Noted n (text_of o) → (status ≡ 0 → n.after ≡ n.before) → TellsEvent n status ev
  tells is.Done ev h same noted quiet = event_is ev None h (same, quiet same)
  tells (is.Refused words) ev h same noted quiet = tells_refusal words ev h same noted
  tells is.ReadFault ev h same noted quiet = absurd h
  tells is.WriteFault ev h same noted quiet = absurd h
  tells is.CoreFault ev h same noted quiet = absurd h
  tells (is.Memory e) ev h same noted quiet = absurd h
  tells is.TooLarge ev h same noted quiet = event_is ev _ h.1 (same, noted)

-- ---- the effect

module _ (d : Definitions) (positions : List ℕ) (texts taken : List (List ℕ)) (t : Traces) where
  abbrev pub walking : Effect
  walking = on_inputs (several (planning d) next_at false) (first_at positions)

  -- Where the positions rise, the files decide; else their fault does.
  with_order : (q : Result (Unit {0}) PlanFault) → order_result positions ≡ q → (ss : List FileScript) → first_event d.warm positions ss ≡ or_event (order_event q) (files_event d.warm 0 None positions ss)
  with_order q e ss = ap (λ (x : Result (Unit {0}) PlanFault). or_event (order_event x) (files_event d.warm 0 None positions ss)) e

  lines_with : (q : Result (Unit {0}) PlanFault) → order_result positions ≡ q → (ss : List FileScript) → plan_lines d.warm positions ss ≡ before_event (order_event q) [] (files_lines d.warm 0 None positions ss)
  lines_with q e ss = ap (λ (x : Result (Unit {0}) PlanFault). before_event (order_event x) [] (files_lines d.warm 0 None positions ss)) e

  pub refused_order : (fault : PlanFault) (ev : Option Event) → ev ≡ Some (Rule (piece_in fault) (Plan fault)) → (o : Outcome) → IsOwn o → IsRefusedBy (Some (inputs.Piece (piece_in fault))) (refusal_of_plan fault) o → Says o ev
  refused_order fault ev e is.Done own h = absurd h
  refused_order fault ev e (is.Refused words) own h = record { piece = piece_in fault; reason = h.0; words_are = h.2; event = inl (Plan fault, e, h.1) }
  refused_order fault ev e is.ReadFault own h = absurd h
  refused_order fault ev e is.WriteFault own h = absurd h
  refused_order fault ev e is.CoreFault own h = absurd h
  refused_order fault ev e (is.Memory x) own h = absurd own
  refused_order fault ev e is.TooLarge own h = absurd h

  says_first : (q : Result (Unit {0}) PlanFault) → order_result positions ≡ q → (o : Outcome) → IsOwn o → (let x = where_ordered q walking in x.Does texts taken t o) → length positions ≡ length texts → (ss : List FileScript) → AreScripts texts ss
      → Says o (first_event d.warm positions ss) × WroteBytes t (plan_lines d.warm positions ss)
  says_first (Err fault) e o own h long ss are = (
    refused_order fault _ (with_order (Err fault) e ss) o own h.2,
    (let id = h.1 in id.written) ∙ (append-none t.written_before ∙ ap (append_known t.written_before) (sym (lines_with (Err fault) e ss))),
  )
  says_first (Ok x) e o own h long ss are =
      let w = walked d (first_at positions) positions texts taken ss t o (first_comes positions) long are own h in (
        subst (Says o) (sym (with_order (Ok x) e ss)) w.says,
        w.wrote ∙ ap (append_known t.written_before) (sym (lines_with (Ok x) e ss)),
      )

  not_refused_read : (fault : PlanFault) → IsRefusedBy (Some (inputs.Piece (piece_in fault))) (refusal_of_plan fault) is.ReadFault → ⊥
  not_refused_read fault h = h

  reads_on : (q : Result (Unit {0}) PlanFault) → order_result positions ≡ q → (let x = where_ordered q walking in x.Does texts taken t is.ReadFault) → length positions ≡ length texts
      → (ss : List FileScript) × AreCutShort texts taken ss × IsReadOn (first_event d.warm positions ss) × WroteBytes t (plan_lines d.warm positions ss)
  reads_on (Err fault) e h long = absurd h.2
  reads_on (Ok x) e h long =
      let w = cut_short d (first_at positions) positions texts taken t (first_comes positions) long h in
      (w.0, w.1, subst IsReadOn (sym (with_order (Ok x) e w.0)) w.2.says, w.2.wrote ∙ ap (append_known t.written_before) (sym (lines_with (Ok x) e w.0)))

  -- it asks no more of the core than its warm-up
  serves_walk : (at : PieceAt) (xs : List (List ℕ)) → ServesInputs (several (planning d) next_at false) at xs
  serves_walk at [] = tt
  serves_walk at (x ∷ xs) = ((λ before f takes. tt), (λ next leads. serves_walk next xs))

  serves : (q : Result (Unit {0}) PlanFault) → (let x = where_ordered q walking in x.Serves texts)
  serves (Err fault) = tt
  serves (Ok x) = serves_walk (first_at positions) texts

-- ---- the answer

-- a status of the files alone is the command's own
pub own_end : (o : Outcome) (status : ℕ) → status ≡ status_of o → IsDecided status → IsOwn o
own_end is.Done status e h = tt
own_end (is.Refused words) status e h = tt
own_end is.ReadFault status e h = elim h [ inl x ↦ absurd (omega (arith, e, x)) | inr y ↦ elim y [ inl x ↦ absurd (omega (arith, e, x)) | inr x ↦ absurd (omega (arith, e, x)) ] ]
own_end is.WriteFault status e h = elim h [ inl x ↦ absurd (omega (arith, e, x)) | inr y ↦ elim y [ inl x ↦ absurd (omega (arith, e, x)) | inr x ↦ absurd (omega (arith, e, x)) ] ]
own_end is.CoreFault status e h = elim h [ inl x ↦ absurd (omega (arith, e, x)) | inr y ↦ elim y [ inl x ↦ absurd (omega (arith, e, x)) | inr x ↦ absurd (omega (arith, e, x)) ] ]
own_end (is.Memory a) status e h = elim h [ inl x ↦ absurd (omega (arith, e, x)) | inr y ↦ elim y [ inl x ↦ absurd (omega (arith, e, x)) | inr x ↦ absurd (omega (arith, e, x)) ] ]
own_end is.TooLarge status e h = tt

pub not_memory : {status : ℕ} → IsDecided status → status ≡ 6 → ⊥
not_memory (inl x) six = omega (arith, x, six)
not_memory (inr (inl x)) six = omega (arith, x, six)
not_memory (inr (inr x)) six = omega (arith, x, six)

-- the flush changed nothing
pub settled : (a b : ℕ) (o ended : Outcome) → Settles a b o ended → IsOwn ended → ended ≡ o
settled a b o ended (inl (same, e)) own = e
settled a b o ended (inr (inl (not, rose, e))) own = absurd (subst IsOwn e own)
settled a b o ended (inr (inr (same, m))) own = absurd (not_both ended m own)
  where
    not_both : (x : Outcome) → IsMemory x → IsOwn x → ⊥
    not_both is.Done m own = m
    not_both (is.Refused words) m own = m
    not_both is.ReadFault m own = m
    not_both is.WriteFault m own = m
    not_both is.CoreFault m own = m
    not_both (is.Memory e) m own = own
    not_both is.TooLarge m own = m

pub settled_read : (a b : ℕ) (o ended : Outcome) → Settles a b o ended → ended ≡ is.ReadFault → o ≡ is.ReadFault
settled_read a b o ended (inl (same, e)) h = sym e ∙ h
settled_read a b o ended (inr (inl (not, rose, e))) h = absurd (let never : is.WriteFault ≡ is.ReadFault = sym e ∙ h in cc)
settled_read a b o ended (inr (inr (same, m))) h = absurd (subst IsMemory h m)

pub decided_or_memory : (status : ℕ) → status < 8 → status ≢ 2 → IsNoFault status → IsDecided status ⊎ (status ≡ 6)
decided_or_memory status few not_two ok = by_status status few not_two ok
  where
    by_status : (s : ℕ) → s < 8 → s ≢ 2 → IsNoFault s → IsDecided s ⊎ (s ≡ 6)
    by_status zero few not_two ok = inl (inl refl)
    by_status (suc zero) few not_two ok = inl (inr (inl refl))
    by_status (suc (suc zero)) few not_two ok = absurd (not_two refl)
    by_status (suc (suc (suc zero))) few not_two ok = absurd (ok.0 refl)
    by_status (suc (suc (suc (suc zero)))) few not_two ok = absurd (ok.1 refl)
    by_status (suc (suc (suc (suc (suc zero))))) few not_two ok = absurd (ok.2 refl)
    by_status (suc (suc (suc (suc (suc (suc zero)))))) few not_two ok = inr refl
    by_status (suc (suc (suc (suc (suc (suc (suc zero))))))) few not_two ok = inl (inr (inr refl))
    by_status (suc (suc (suc (suc (suc (suc (suc (suc s)))))))) few not_two ok = absurd (omega (arith, few))

pub held_long : (bytes : List ℕ → Option (List ℕ)) (names texts : List (List ℕ)) → AreHeld bytes names texts → length names ≡ length texts
held_long bytes [] [] h = refl
held_long bytes [] (text ∷ texts) h = absurd h
held_long bytes (name ∷ names) [] h = absurd h
held_long bytes (name ∷ names) (text ∷ texts) h = omega (arith, held_long bytes names texts h.1)

pub all_held : (bytes : List ℕ → Option (List ℕ)) (names texts : List (List ℕ)) → AreHeld bytes names texts → AllHeld bytes names
all_held bytes [] [] h = tt
all_held bytes [] (text ∷ texts) h = absurd h
all_held bytes (name ∷ names) [] h = absurd h
all_held bytes (name ∷ names) (text ∷ texts) h = (ap is_some h.0, all_held bytes names texts h.1)

module _ {H K C : Type 0} (h : Shelf.Ghosts H) (k : Sink.Ghosts K) (g : Core.Ghosts C) (d : Definitions) (law : NoEventIsAPlan) (positions : List ℕ) (names texts : List (List ℕ)) (s0 s1 : H) (o0 o1 : K) (c0 c1 : C) (n : Notes) (status : ℕ) where
  pub plans_soundly : (status < 8) × (status ≢ 2) → length positions ≡ length names → Ran k (plans_files d positions) names (world h k g s0 o0 c0) (λ sink. world h k g s1 sink c1) o1 n status
      → CausesOf (world h k g s0 o0 c0).faults (world h k g s1 o1 c1).faults status → AreHeld (h.bytes s0) names texts → PlansSoundly d positions names texts (world h k g s0 o0 c0) (world h k g s1 o1 c1) n status
  plans_soundly few each ran causes held = record {
    taken = called.taken;
    from = called.from;
    answers = record { decided = decided; read = read; planned = λ ss are. law d.warm positions texts ss are long };
    complete = λ well. decided_or_memory status few.0 few.1 (no_fault well);
  }
    where
      called : Called (plans_files d positions) names (world h k g s0 o0 c0) (world h k g s1 ran.behind c1) ran.outcome
      called = ran.called

      ended : Outcome
      ended = ran.finished.ended

      t : Traces
      t = traces (world h k g s0 o0 c0) (world h k g s1 o1 c1)

      long : length positions ≡ length texts
      long = each ∙ held_long (h.bytes s0) names texts held

      trace : Option (List ℕ) → Traces
      trace w = record { written_before = k.written o0; written_after = w; fed_before = (g.meaning c0).fed; fed_after = (g.meaning c1).fed }

      written : (k.written o1) ≡ k.written ran.behind
      written = ran.finished.flushed.written

      does : (o : Outcome) → ran.outcome ≡ o → (let x = where_ordered (order_result positions) (on_inputs (several (planning d) next_at false) (first_at positions)) in x.Does texts called.taken t o)
      does o e = subst (λ (w : Option (List ℕ)). let x = where_ordered (order_result positions) (on_inputs (several (planning d) next_at false) (first_at positions)) in x.Does texts called.taken (trace w) o) (sym written)
          (subst (λ (y : Outcome). let x = where_ordered (order_result positions) (on_inputs (several (planning d) next_at false) (first_at positions)) in x.Does texts called.taken (trace (k.written ran.behind)) y) e (called.does texts held))

      decided : IsDecided status → (ss : List FileScript) → AreScripts texts ss → TellsFirst d positions ss t n status
      decided own_status ss are =
          let told = told_status n ended status status ran.finished.reported refl (not_memory own_status) in
          let own = own_end ended status (sym told.0) own_status in
          let same = settled _ _ ran.outcome ended ran.finished.flushed.settles own in
          let x = says_first d positions texts called.taken t (order_result positions) refl ended own (does ended (sym same)) long ss are in
          record { event = tells n status ended _ x.0 (sym told.0) told.1 (λ z. (ran.finished.noted.done z).0); wrote = x.1 }

      read : status ≡ 3 → TellsRead d positions texts called.taken t n
      read three =
          let at_read = read_outcome n ended status ran.finished.reported three in
          let o = settled_read _ _ ran.outcome ended ran.finished.flushed.settles at_read in
          let x = reads_on d positions texts called.taken t (order_result positions) refl (does is.ReadFault o) long in
          record { scripts = x.0; cut = x.1; on = x.2; wrote = x.3; noted = ran.finished.noted.read three }

      no_fault : GoesWell (world h k g s0 o0 c0) (world h k g s1 o1 c1) → IsNoFault status
      no_fault (inl calm) = calm_well h k g (plans_files d positions) names texts s0 s1 o0 ran.behind o1 c0 c1 n status ran.outcome ended called ran.finished.flushed.settles ran.finished.flushed.calm_writes ran.finished.reported
          (all_held (h.bytes s0) names texts held) held (serves d positions texts called.taken t (order_result positions)) calm.0 calm.1 calm.2
      no_fault (inr none) = none_rose _ _ status none causes
