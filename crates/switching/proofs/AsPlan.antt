-- `switch` refuses of a file what `plan` refuses of it, and nothing else.
use Rattle.std.proofs.Common.{◌≡◌, ℕ, List, [], ◌∷◌, ◌++◌, None, refl, sym, ap, ◌∙◌, arith, inl, inr}
use Rattle.std.specs.Prelude.{◌≢◌}
use Rattle.std.specs.Io.KnownBytes.{append_known}
use Rattle.std.proofs.lemmas.List.{append-nil, append_assoc}
use Rattle.splicer.specs.Runs.{RunValue, new_run, fault}
use Rattle.core_iface.specs.Decoding.{Definitions}
use Rattle.tool_text.specs.declared.refusal.Refusal.{Refusal}
use Rattle.au_stream.specs.Frames.{Frame, config_of}
use Rattle.au_stream.specs.Script.{Mark, End, TooLarge, IsScript}
use Rattle.au_stream.proofs.Marks.{one_script, same_frames}
use Rattle.commands.specs.declared.outcome.Outcome.{Outcome}
use Rattle.commands.specs.declared.outcome.Outcome.TheVariants as is
use Rattle.commands.specs.Commands.{TakesAll, units_over}
use Rattle.commands.specs.Ending.{Traces, IsRefused, Passes, Ends, WroteAll}
use Rattle.playing.specs.Spliced.{coded}
use Rattle.joining.specs.Renditions.{asked_at, run_at, BreaksRule}
use Rattle.joining.specs.Planning.{planning}
use Rattle.joining.specs.Events.{FileScript}
use Rattle.joining.proofs.Events.{here_none, taken_none}
use Rattle.joining.proofs.PlanSteps.{run_at_push}
use Rattle.joining.proofs.SpliceEvents.{unless_none, unless_some}
use Rattle.joining.proofs.Told.{IsOwn}
use Rattle.switching.specs.Switching.{SwitchAt, switching}
use Rattle.switching.specs.CutShort.{unbroken, file_unbroken}
use Rattle.switching.proofs.CutParts.{all_unbroken}

-- nothing is known of what was written, and nothing was fed
abbrev pub unknown : Traces
unknown = record { written_before = None; written_after = None; fed_before = 0; fed_after = 0 }

module _ (d : Definitions) (at : SwitchAt) where
  pub taken_as_planned : (before frames : List Frame) → TakesAll (switching d at) before frames → TakesAll (planning d at.piece) before frames
  taken_as_planned before [] h = tt
  taken_as_planned before (f ∷ fs) h = (h.0, taken_as_planned (before ++ f ∷ []) fs h.1)

  -- `plan` feeds nothing
  no_work : (before frames : List Frame) → units_over (planning d at.piece) before frames ≡ 0
  no_work before [] = refl
  no_work before (f ∷ fs) = let e = no_work (before ++ f ∷ []) fs in omega (arith, e)

  passes_as : (text : List ℕ) (frames : List Frame) (mark : Mark) → Passes (switching d at) text frames mark → Passes (planning d at.piece) text frames mark
  passes_as text frames mark h = record { script = h.script; takes = taken_as_planned [] frames h.takes }

  none_written : (frames : List Frame) → WroteAll (planning d at.piece) frames unknown
  none_written frames = let e = no_work [] frames in record { written = refl; fed = omega (arith, e) }

  refused_as : (text : List ℕ) (frames : List Frame) (r : Refusal) (t : Traces) → IsRefused (switching d at) text frames r t → IsRefused (planning d at.piece) text frames r unknown
  refused_as text frames r t (inl h) =
      let e = no_work [] frames in
      inl (record { frame = h.frame; later = h.later; of_file = h.of_file; takes = taken_as_planned [] frames h.takes; refuses = h.refuses; wrote = record { written = refl; fed = omega (arith, e) } })
  refused_as text frames r t (inr (inl h)) = inr (inl (record { mark = h.mark; script = h.script; takes = taken_as_planned [] frames h.takes; refuses = h.refuses; wrote = none_written frames }))
  refused_as text frames r t (inr (inr h)) = inr (inr (record { passes = passes_as text frames End h.passes; refuses = h.refuses; wrote = none_written frames }))

  -- where it was stopped by the file alone
  pub ends_as_planned : (text front : List ℕ) (t : Traces) (o : Outcome) → IsOwn o → o ≢ is.Done → Ends (switching d at) text front t o → Ends (planning d at.piece) text front unknown o
  ends_as_planned text front t is.Done own not h = absurd (not refl)
  ends_as_planned text front t (is.Refused words) own not h = (h.0, h.1, refused_as text h.0 h.1 t h.2, h.3)
  ends_as_planned text front t is.ReadFault own not h = absurd own
  ends_as_planned text front t is.WriteFault own not h = absurd own
  ends_as_planned text front t is.CoreFault own not h = absurd own
  ends_as_planned text front t (is.Memory e) own not h = absurd own
  ends_as_planned text front t is.TooLarge own not h = (h.0, passes_as text h.0 TooLarge h.1, none_written h.0)

  -- ---- the frames that break no rule

  pub taken_unbroken : (frames : List Frame) → TakesAll (switching d at) [] frames → unbroken d.warm (new_run (asked_at at.piece)) frames ≡ frames
  taken_unbroken frames h = all_unbroken d.warm (new_run (asked_at at.piece)) frames (taken_none d at.piece frames (taken_as_planned [] frames h))

  -- behind frames that are taken comes what comes behind them
  unbroken_behind : (before fs later : List Frame) → TakesAll (planning d at.piece) before fs → unbroken d.warm (run_at at.piece before) (fs ++ later) ≡ fs ++ unbroken d.warm (run_at at.piece (before ++ fs)) later
  unbroken_behind before [] later h = ap (λ (xs : List Frame). unbroken d.warm (run_at at.piece xs) later) (sym (append-nil before))
  unbroken_behind before (f ∷ fs) later h =
      unless_none _ _ (here_none d at.piece before f h.0)
      ∙ ap (λ (xs : List Frame). f ∷ xs) (ap (λ (v : RunValue). unbroken d.warm v (fs ++ later)) (sym (run_at_push at.piece before f))
      ∙ (unbroken_behind (before ++ f ∷ []) fs later h.1
      ∙ ap (λ (xs : List Frame). fs ++ unbroken d.warm (run_at at.piece xs) later) (append_assoc before (f ∷ []) fs)))

  -- one that breaks a rule ends them
  next_unbroken : (frames : List Frame) (f : Frame) (later : List Frame) (r : Refusal) → TakesAll (switching d at) [] frames → BreaksRule d at.piece frames f r → unbroken d.warm (new_run (asked_at at.piece)) (frames ++ f ∷ later) ≡ frames
  next_unbroken frames f later r takes breaks =
      unbroken_behind [] frames (f ∷ later) (taken_as_planned [] frames takes)
      ∙ (ap (λ (xs : List Frame). frames ++ xs) (unless_some (fault (run_at at.piece frames) (d.warm (config_of f)) (coded f)) breaks.0 _ breaks.1) ∙ append-nil frames)

  -- ---- what was written where the file stopped it

  pub record StoppedBehind (s : FileScript) (t : Traces) : Type 0 where
    pub frames : List Frame
    pub unbroken_are : file_unbroken d.warm (asked_at at.piece) s ≡ frames
    pub wrote : WroteAll (switching d at) frames t

  module _ (s : FileScript) (text : List ℕ) (mark : Mark) (script : IsScript text s.frames mark) where
    taken_here : (frames : List Frame) → s.frames ≡ frames → TakesAll (switching d at) [] frames → file_unbroken d.warm (asked_at at.piece) s ≡ frames
    taken_here frames is takes = ap (unbroken d.warm (new_run (asked_at at.piece))) is ∙ taken_unbroken frames takes

    refused_behind : (frames : List Frame) (r : Refusal) (t : Traces) → IsRefused (switching d at) text frames r t → StoppedBehind s t
    refused_behind frames r t (inl h) =
        let all = same_frames text s.frames (frames ++ h.frame ∷ h.later) mark script h.of_file in
        record {
          frames = frames;
          unbroken_are = ap (unbroken d.warm (new_run (asked_at at.piece))) all ∙ next_unbroken frames h.frame h.later r h.takes h.refuses;
          wrote = record { written = h.wrote.written ∙ ap (append_known t.written_before) (append-nil ((switching d at).output frames)); fed = h.wrote.fed };
        }
    refused_behind frames r t (inr (inl h)) =
        let one = one_script text s.frames frames mark h.mark script h.script in
        record { frames = frames; unbroken_are = taken_here frames one.0 h.takes; wrote = h.wrote }
    refused_behind frames r t (inr (inr h)) =
        let one = one_script text s.frames frames mark End script h.passes.script in
        record { frames = frames; unbroken_are = taken_here frames one.0 h.passes.takes; wrote = h.wrote }

    pub stopped_behind : (front : List ℕ) (t : Traces) (o : Outcome) → IsOwn o → o ≢ is.Done → Ends (switching d at) text front t o → StoppedBehind s t
    stopped_behind front t is.Done own not h = absurd (not refl)
    stopped_behind front t (is.Refused words) own not h = refused_behind h.0 h.1 t h.2
    stopped_behind front t is.ReadFault own not h = absurd own
    stopped_behind front t is.WriteFault own not h = absurd own
    stopped_behind front t is.CoreFault own not h = absurd own
    stopped_behind front t (is.Memory e) own not h = absurd own
    stopped_behind front t is.TooLarge own not h =
        let one = one_script text s.frames h.0 mark TooLarge script h.1.script in
        record { frames = h.0; unbroken_are = taken_here h.0 one.0 h.1.takes; wrote = h.2 }
