-- What is answered to a command on one file that writes nothing at its end, from what was promised of the call.
use Rattle.std.proofs.Common.{◌≡◌, ℕ, List, [], ◌∷◌, ◌++◌, Option, Some, None, ap, sym, subst, ◌∙◌, ◌⊎◌, inl, inr}
use Rattle.std.specs.Prelude.{◌≢◌, is_some}
use Rattle.std.specs.Io.KnownBytes.{append_known}
use Rattle.std.proofs.lemmas.List.{append_assoc, append-nil}
use Rattle.outside.specs.declared.shelf.Shelf
use Rattle.outside.specs.declared.sink.Sink
use Rattle.core_iface.specs.declared.cores.Core
use Rattle.tool_text.specs.declared.refusal.Refusal.{Refusal}
use Rattle.au_stream.specs.Frames.{Frame}
use Rattle.au_stream.specs.Script.{End, TooLarge}
use Rattle.au_stream.proofs.Marks.{one_script, same_frames}
use Rattle.commands.specs.declared.outcome.Outcome.{Outcome}
use Rattle.commands.specs.declared.outcome.Outcome.TheVariants as is
use Rattle.commands.specs.Calling.{Effect, AreHeld, AllHeld, Called}
use Rattle.commands.specs.Causes.{Counts}
use Rattle.commands.specs.Commands.{Command, TakesAll, TakesEnd}
use Rattle.commands.specs.Doing.{IsNotBegun}
use Rattle.commands.specs.Ending.{Traces, IsRefused, Passes, Ends, refusal_of_mark}
use Rattle.commands.specs.OnInput.{on_file}
use Rattle.commands.specs.Ran.{Notes, Noted, Ran, Reports, CausesOf, IsMemory, Settles, status_of, text_of}
use Rattle.commands.specs.Worlds.{world, traces}
use Rattle.commands.proofs.Rans.{read_outcome, write_outcome, core_outcome}
use Rattle.playing.specs.FileAnswers.{WroteBytes, AnswersTaken, AnswersRefused, AnswersTooLarge, AnswersFile, AreCalm, NoneRose}

-- The command writes nothing of a frame before it judges it, and nothing at the end.
pub record IsSilent (c : Command) : Type 0 where
  pub opening : (before : List Frame) (f : Frame) → c.opening before f ≡ []
  pub closing : (frames : List Frame) (text : List ℕ) → c.Closes frames text → text ≡ []

-- a frame behind others that is refused is not taken
not_taken : (c : Command) (before fs : List Frame) (f : Frame) (later : List Frame) (r : Refusal) → c.Refuses (before ++ fs) f r → TakesAll c before (fs ++ f ∷ later) → ⊥
not_taken c before [] f later r bad h = h.0 r (subst (λ (xs : List Frame). c.Refuses xs f r) (append-nil before) bad)
not_taken c before (g ∷ fs) f later r bad h = not_taken c (before ++ g ∷ []) fs f later r (subst (λ (xs : List Frame). c.Refuses xs f r) (sym (append_assoc before (g ∷ []) fs)) bad) h.1

-- a file that is taken to its end is not refused
not_refused : (c : Command) (text : List ℕ) (t : Traces) (frames : List Frame) → Passes c text frames End → TakesEnd c frames → (taken : List Frame) (r : Refusal) → IsRefused c text taken r t → ⊥
not_refused c text t frames p ends taken r (inl x) =
    let e = same_frames text frames (taken ++ x.frame ∷ x.later) End p.script x.of_file in
    not_taken c [] taken x.frame x.later r x.refuses (subst (TakesAll c []) e p.takes)
not_refused c text t frames p ends taken r (inr (inl x)) =
    let e : End ≡ x.mark = (one_script text frames taken End x.mark p.script x.script).1 in
    let never : None ≡ Some r = ap refusal_of_mark e ∙ x.refuses in cc
not_refused c text t frames p ends taken r (inr (inr x)) =
    let same = (one_script text frames taken End End p.script x.passes.script).0 in
    ends r (subst (λ (fs : List Frame). c.RefusesEnd fs r) (sym same) x.refuses)

-- nor is it too large
not_large : (c : Command) (text : List ℕ) (frames others : List Frame) → Passes c text frames End → Passes c text others TooLarge → ⊥
not_large c text frames others p q = let e : End ≡ TooLarge = (one_script text frames others End TooLarge p.script q.script).1 in cc

-- no status of a fault
abbrev pub IsNoFault : ℕ → Type 0
IsNoFault status = (status ≢ 3) × (status ≢ 4) × (status ≢ 5)

-- ---- by how the command ended

module _ (c : Command) (silent : IsSilent c) (text : List ℕ) (t : Traces) (n : Notes) (status : ℕ) where
  at_memory : status ≡ 6 → AnswersFile c text t n status
  at_memory e = record { verdict = inr (inr (inr e)); taken = λ frames p ends. inr e }

  at_refusal : AnswersRefused c text t n status → AnswersFile c text t n status
  at_refusal h = record { verdict = inr (inl h); taken = λ frames p ends. absurd (not_refused c text t frames p ends h.frames h.reason h.refused) }

  at_large : AnswersTooLarge c text t n status → AnswersFile c text t n status
  at_large h = record { verdict = inr (inr (inl h)); taken = λ frames p ends. absurd (not_large c text frames h.frames p h.passes) }

  at_done : (frames : List Frame) → AnswersTaken c text frames t n status → AnswersFile c text t n status
  at_done frames h = record {
    verdict = inl (frames, h);
    taken = λ others q ends.
        let same = (one_script text frames others End End h.passes.script q.script).0 in
        inl (subst (λ (fs : List Frame). AnswersTaken c text fs t n status) same h);
  }

  wrote_refused : (frames : List Frame) (r : Refusal) → IsRefused c text frames r t → WroteBytes t (c.output frames)
  wrote_refused frames r (inl x) = x.wrote.written ∙ ap (append_known t.written_before) (ap (λ (xs : List ℕ). c.output frames ++ xs) (silent.opening frames x.frame) ∙ append-nil (c.output frames))
  wrote_refused frames r (inr (inl x)) = x.wrote.written
  wrote_refused frames r (inr (inr x)) = x.wrote.written

  by_outcome : (taken : List ℕ) (o : Outcome) → Ends c text taken t o → (status ≡ status_of o) × Noted n (text_of o) → (status ≡ 0 → n.after ≡ n.before) → IsNoFault status → AnswersFile c text t n status
  by_outcome taken is.Done h r quiet ok = at_done h.0 (record {
    status_is = r.0;
    passes = h.1;
    ends = h.2.takes;
    wrote = h.2.written ∙ ap (append_known t.written_before) (ap (λ (xs : List ℕ). c.output h.0 ++ xs) (silent.closing h.0 h.2.closing h.2.closes) ∙ append-nil (c.output h.0));
    quiet = quiet r.0;
  })
  by_outcome taken (is.Refused words) h r quiet ok = at_refusal (record {
    status_is = r.0;
    frames = h.0;
    reason = h.1;
    refused = h.2;
    wrote = wrote_refused h.0 h.1 h.2;
    noted = subst (Noted n) h.3 r.1;
  })
  by_outcome taken is.ReadFault h r quiet ok = absurd (ok.0 r.0)
  by_outcome taken is.WriteFault h r quiet ok = absurd (ok.1 r.0)
  by_outcome taken is.CoreFault h r quiet ok = absurd (ok.2 r.0)
  by_outcome taken (is.Memory e) h r quiet ok = at_memory r.0
  by_outcome taken is.TooLarge h r quiet ok = at_large (record { status_is = r.0; frames = h.0; passes = h.1; wrote = h.2.written; noted = r.1 })

  not_begun : (o : Outcome) → IsNotBegun o → status ≡ status_of o → IsNoFault status → AnswersFile c text t n status
  not_begun is.Done h e ok = absurd h
  not_begun (is.Refused words) h e ok = absurd h
  not_begun is.ReadFault h e ok = absurd (ok.0 e)
  not_begun is.WriteFault h e ok = absurd h
  not_begun is.CoreFault h e ok = absurd h
  not_begun (is.Memory a) h e ok = at_memory e
  not_begun is.TooLarge h e ok = absurd h

  -- the command ended so, by its input
  by_input : (taken : List (List ℕ)) (o : Outcome) → (let x = on_file c in x.Does (text ∷ []) taken t o) → (status ≡ status_of o) × Noted n (text_of o) → (status ≡ 0 → n.after ≡ n.before) → IsNoFault status → AnswersFile c text t n status
  by_input [] o h r quiet ok = not_begun o h.0 r.0 ok
  by_input (front ∷ taken) o h r quiet ok = by_outcome front o h r quiet ok

  at_memory_end : (o : Outcome) → IsMemory o → status ≡ status_of o → AnswersFile c text t n status
  at_memory_end is.Done m e = absurd m
  at_memory_end (is.Refused words) m e = absurd m
  at_memory_end is.ReadFault m e = absurd m
  at_memory_end is.WriteFault m e = absurd m
  at_memory_end is.CoreFault m e = absurd m
  at_memory_end (is.Memory a) m e = at_memory e
  at_memory_end is.TooLarge m e = absurd m

  -- behind the flush
  by_end : (taken : List (List ℕ)) (o ended : Outcome) (out_before out_after : ℕ) → (let x = on_file c in x.Does (text ∷ []) taken t o) → Settles out_before out_after o ended → (status ≡ status_of ended) × Noted n (text_of ended) → (status ≡ 0 → n.after ≡ n.before) → IsNoFault status → AnswersFile c text t n status
  by_end taken o ended a b h (inl (same, e)) r quiet ok = by_input taken o h (subst (λ (x : Outcome). (status ≡ status_of x) × Noted n (text_of x)) e r) quiet ok
  by_end taken o ended a b h (inr (inl (not, rose, e))) r quiet ok = absurd (ok.1 (r.0 ∙ ap status_of e))
  by_end taken o ended a b h (inr (inr (same, m))) r quiet ok = at_memory_end ended m r.0

  by_report : (taken : List (List ℕ)) (o ended : Outcome) (out_before out_after : ℕ) → (let x = on_file c in x.Does (text ∷ []) taken t o) → Settles out_before out_after o ended → Reports n (text_of ended) (status_of ended) status → (status ≡ 0 → n.after ≡ n.before) → IsNoFault status → AnswersFile c text t n status
  by_report taken o ended a b h s (inl r) quiet ok = by_end taken o ended a b h s r quiet ok
  by_report taken o ended a b h s (inr r) quiet ok = at_memory r.0

-- ---- no status of a fault

pub none_rose : (before after : Counts) (status : ℕ) → NoneRose before after → CausesOf before after status → IsNoFault status
none_rose before after status none causes = (
  (λ e. none.shelf (causes.read e).0),
  (λ e. elim (causes.write e) [ inl x ↦ none.out x.1 | inr x ↦ none.out x.0 ]),
  (λ e. none.core (causes.core e).2),
)

-- where neither the command nor the flush fails
settles_well : (out_before out_after : ℕ) (o ended fault : Outcome) → Settles out_before out_after o ended → o ≢ fault → fault ≢ is.WriteFault → (IsMemory fault → ⊥) → ended ≢ fault
settles_well a b o ended fault (inl (same, e)) other write memory is = other (sym e ∙ is)
settles_well a b o ended fault (inr (inl (not, rose, e))) other write memory is = write (sym is ∙ e)
settles_well a b o ended fault (inr (inr (same, m))) other write memory is = memory (subst IsMemory is m)

read_no_write : is.ReadFault ≢ is.WriteFault
read_no_write e = cc

core_no_write : is.CoreFault ≢ is.WriteFault
core_no_write e = cc

-- where shelf, out and core are calm, and what the command needs is served
pub calm_well : {H K C : Type 0} (h : Shelf.Ghosts H) (k : Sink.Ghosts K) (g : Core.Ghosts C) (e : Effect) (names texts : List (List ℕ)) (s0 s1 : H) (o0 behind o1 : K) (c0 c1 : C) (n : Notes) (status : ℕ) (o ended : Outcome)
    → Called e names (world h k g s0 o0 c0) (world h k g s1 behind c1) o → Settles (k.faults behind) (k.faults o1) o ended → (k.calm behind → ended ≡ is.WriteFault → o ≡ is.WriteFault) → Reports n (text_of ended) (status_of ended) status
    → AllHeld (h.bytes s0) names → AreHeld (h.bytes s0) names texts → e.Serves texts → h.calm s0 → k.calm o0 → g.IsCalm c0 → IsNoFault status
calm_well h k g e names texts s0 s1 o0 behind o1 c0 c1 n status o ended called settles flushed reports all held serves shelf out core = (
  (λ z. settles_well _ _ o ended is.ReadFault settles (called.calm_reads shelf all) read_no_write (λ m. m) (read_outcome n ended status reports z)),
  (λ z. called.calm_writes out (flushed (called.keeps.calm_out out) (write_outcome n ended status reports z))),
  (λ z. settles_well _ _ o ended is.CoreFault settles (called.calm_decodes texts held serves core) core_no_write (λ m. m) (core_outcome n ended status reports z)),
)

module _ {H K C : Type 0} (h : Shelf.Ghosts H) (k : Sink.Ghosts K) (g : Core.Ghosts C) (c : Command) (silent : IsSilent c) (s0 s1 : H) (o0 o1 : K) (c0 c1 : C) (n : Notes) (status : ℕ) (file text : List ℕ) where
  calm_status : (behind : K) (o ended : Outcome) → Called (on_file c) (file ∷ []) (world h k g s0 o0 c0) (world h k g s1 behind c1) o → Settles (k.faults behind) (k.faults o1) o ended → (k.calm behind → ended ≡ is.WriteFault → o ≡ is.WriteFault) → Reports n (text_of ended) (status_of ended) status → h.bytes s0 file ≡ Some text → AreCalm c text (world h k g s0 o0 c0) → IsNoFault status
  calm_status behind o ended called settles flushed reports held calm =
      calm_well h k g (on_file c) (file ∷ []) (text ∷ []) s0 s1 o0 behind o1 c0 c1 n status o ended called settles flushed reports (ap is_some held, tt) (held, tt) calm.served calm.shelf calm.out calm.core

  pub answered : Ran k (on_file c) (file ∷ []) (world h k g s0 o0 c0) (λ sink. world h k g s1 sink c1) o1 n status → CausesOf (world h k g s0 o0 c0).faults (world h k g s1 o1 c1).faults status → h.bytes s0 file ≡ Some text → AreCalm c text (world h k g s0 o0 c0) ⊎ NoneRose (world h k g s0 o0 c0).faults (world h k g s1 o1 c1).faults → AnswersFile c text (traces (world h k g s0 o0 c0) (world h k g s1 o1 c1)) n status
  answered ran causes held given =
      let end = ran.finished in
      let ok : IsNoFault status = elim given [
        | inl calm ↦ calm_status ran.behind ran.outcome end.ended ran.called end.flushed.settles end.flushed.calm_writes end.reported held calm
        | inr none ↦ none_rose _ _ status none causes
      ] in
      let trace : Option (List ℕ) → Traces = λ w. record { written_before = k.written o0; written_after = w; fed_before = (g.meaning c0).fed; fed_after = (g.meaning c1).fed } in
      subst (λ (w : Option (List ℕ)). AnswersFile c text (trace w) n status) (sym end.flushed.written)
      (by_report c silent text (trace (k.written ran.behind)) n status ran.called.taken ran.outcome end.ended _ _ (ran.called.does (text ∷ []) (held, tt)) end.flushed.settles end.reported (λ z. (end.noted.done z).0) ok)
