-- The first stop of one file, from what `splice` takes of it.
use Rattle.std.proofs.Common.{◌≡◌, ℕ, List, [], ◌∷◌, ◌++◌, Option, Some, None, Result, Ok, Err, Bool, true, false, refl, sym, ap, ◌∙◌}
use Rattle.std.proofs.lemmas.List.{append-nil, append_assoc}
use Rattle.usac_cfg.specs.declared.usac_config.UsacConfig.{UsacConfig}
use Rattle.timeline.specs.declared.piece.Piece.{Piece}
use Rattle.splicer.specs.declared.asked.Asked.{Asked}
use Rattle.splicer.specs.declared.fault.SpliceFault.{SpliceFault}
use Rattle.splicer.specs.Runs.{RunValue, new_run, run_over, fault, behind, end}
use Rattle.core_iface.specs.Decoding.{Definitions}
use Rattle.tool_text.specs.declared.refusal.Refusal.{Refusal}
use Rattle.au_stream.specs.Frames.{Frame, config_of}
use Rattle.au_stream.specs.Script.{End}
use Rattle.commands.specs.Commands.{Takes, TakesAll, TakesEnd}
use Rattle.playing.specs.Spliced.{coded}
use Rattle.joining.specs.Renditions.{PieceAt, asked_at, run_at}
use Rattle.joining.specs.Events.{Close, Marked, FileScript, Event, or_event, close_event, end_event, coded_of}
use Rattle.joining.specs.Splicing.{Halt, refusal_of_halt, halt_with, halt, some_long, handed_of, splicing}
use Rattle.joining.specs.SpliceEvents.{AtFrame, Behind, or_stop, frame_stop, stop_behind, or_halt, halt_over, unless, frames_before, file_stop}
use Rattle.joining.proofs.Rules.{IsTold, IsEndTold, frame_told, end_told}
use Rattle.joining.proofs.PlanSteps.{run_at_push}

-- ---- a frame that is taken is not refused

abbrev IsHaltTold : Option Halt → Type 0
IsHaltTold None = Unit {0}
IsHaltTold (Some h) = (r : Refusal) × (refusal_of_halt h ≡ Some r)

with_told : (o : Option SpliceFault) (long : Bool) (n : ℕ) → IsTold o → IsHaltTold (halt_with o long n)
with_told None true n told = (_, refl)
with_told None false n told = tt
with_told (Some e) long n told = told

none_of : (o : Option Halt) → IsHaltTold o → ((h : Halt) (r : Refusal) → o ≡ Some h → refusal_of_halt h ≡ Some r → ⊥) → o ≡ None
none_of None told never = refl
none_of (Some h) told never = absurd (never h told.0 refl told.1)

halts_none : (x y : Option Halt) → x ≡ None → or_halt x y ≡ y
halts_none x y h = ap (λ (o : Option Halt). or_halt o y) h

pub unless_none : {A B : Type 0} (o : Option A) (xs : List B) → o ≡ None → unless o xs ≡ xs
unless_none {A = A} o xs h = ap (λ (x : Option A). unless x xs) h

pub unless_some : {A B : Type 0} (o : Option A) (a : A) (xs : List B) → o ≡ Some a → unless o xs ≡ []
unless_some {A = A} o a xs h = ap (λ (x : Option A). unless x xs) h

module _ (d : Definitions) (at : PieceAt) where
  taken_here : (before : List Frame) (f : Frame) → Takes (splicing d at) before f → halt (run_at at before) (d.warm (config_of f)) f ≡ None
  taken_here before f takes =
      let v = run_at at before in
      none_of _ (with_told (fault v (d.warm (config_of f)) (coded f)) (some_long (handed_of v f)) v.frames (frame_told v (d.warm (config_of f)) (coded f))) (λ h r is told. takes r (h, is, told))

  -- behind frames that are taken comes what comes behind them
  halt_behind : (before fs later : List Frame) → TakesAll (splicing d at) before fs → halt_over d.warm (run_at at before) (fs ++ later) ≡ halt_over d.warm (run_at at (before ++ fs)) later
  halt_behind before [] later h = ap (λ (xs : List Frame). halt_over d.warm (run_at at xs) later) (sym (append-nil before))
  halt_behind before (f ∷ fs) later h =
      halts_none _ _ (taken_here before f h.0)
      ∙ (ap (λ (v : RunValue). halt_over d.warm v (fs ++ later)) (sym (run_at_push at before f))
      ∙ (halt_behind (before ++ f ∷ []) fs later h.1
      ∙ ap (λ (xs : List Frame). halt_over d.warm (run_at at xs) later) (append_assoc before (f ∷ []) fs)))

  front_behind : (before fs later : List Frame) → TakesAll (splicing d at) before fs → frames_before d.warm (run_at at before) (fs ++ later) ≡ fs ++ frames_before d.warm (run_at at (before ++ fs)) later
  front_behind before [] later h = ap (λ (xs : List Frame). frames_before d.warm (run_at at xs) later) (sym (append-nil before))
  front_behind before (f ∷ fs) later h =
      unless_none _ _ (taken_here before f h.0)
      ∙ ap (λ (xs : List Frame). f ∷ xs) (ap (λ (v : RunValue). frames_before d.warm v (fs ++ later)) (sym (run_at_push at before f))
      ∙ (front_behind (before ++ f ∷ []) fs later h.1
      ∙ ap (λ (xs : List Frame). fs ++ frames_before d.warm (run_at at xs) later) (append_assoc before (f ∷ []) fs)))

  -- frames that are taken
  pub taken_halt : (frames : List Frame) → TakesAll (splicing d at) [] frames → halt_over d.warm (new_run (asked_at at)) frames ≡ None
  taken_halt frames h = ap (halt_over d.warm (new_run (asked_at at))) (sym (append-nil frames)) ∙ halt_behind [] frames [] h

  pub taken_front : (frames : List Frame) → TakesAll (splicing d at) [] frames → frames_before d.warm (new_run (asked_at at)) frames ≡ frames
  taken_front frames h = ap (frames_before d.warm (new_run (asked_at at))) (sym (append-nil frames)) ∙ (front_behind [] frames [] h ∙ append-nil frames)

  -- and one behind them that is not
  pub next_halt : (frames : List Frame) (f : Frame) (later : List Frame) (h : Halt) → TakesAll (splicing d at) [] frames → halt (run_at at frames) (d.warm (config_of f)) f ≡ Some h → halt_over d.warm (new_run (asked_at at)) (frames ++ f ∷ later) ≡ Some h
  next_halt frames f later h takes is = halt_behind [] frames (f ∷ later) takes ∙ ap (λ (o : Option Halt). or_halt o (halt_over d.warm (behind (run_at at frames) (coded f)) later)) is

  pub next_front : (frames : List Frame) (f : Frame) (later : List Frame) (h : Halt) → TakesAll (splicing d at) [] frames → halt (run_at at frames) (d.warm (config_of f)) f ≡ Some h → frames_before d.warm (new_run (asked_at at)) (frames ++ f ∷ later) ≡ frames
  next_front frames f later h takes is = front_behind [] frames (f ∷ later) takes ∙ (ap (λ (xs : List Frame). frames ++ xs) (unless_some _ h _ is) ∙ append-nil frames)

  -- the piece that is there
  pub splice_end_is : (frames : List Frame) → (run_at at frames).ended ≡ false → TakesEnd (splicing d at) frames → (p : Piece) × (end (run_at at frames) ≡ Ok p)
  splice_end_is frames going takes = by_end (end (run_at at frames)) refl (end_told (run_at at frames) going)
    where
      by_end : (q : Result Piece SpliceFault) → end (run_at at frames) ≡ q → IsEndTold q → (p : Piece) × (end (run_at at frames) ≡ Ok p)
      by_end (Ok p) is told = (p, is)
      by_end (Err e) is told = absurd (takes told.0 (e, is, told.1))

-- ---- one file

module _ (warm : UsacConfig → ℕ) (a : Asked) (s : FileScript) where
  abbrev behind_frames : Option Event
  behind_frames = or_event (close_event a.piece s.close) (end_event a.piece (end (run_over (new_run a) (coded_of s))))

  pub stop_frame : (h : Halt) → halt_over warm (new_run a) s.frames ≡ Some h → file_stop warm a s ≡ Some (AtFrame a.piece h)
  stop_frame h is = ap (λ (o : Option Halt). or_stop (frame_stop a.piece o) (stop_behind behind_frames)) is

  stop_later : halt_over warm (new_run a) s.frames ≡ None → file_stop warm a s ≡ stop_behind behind_frames
  stop_later none = ap (λ (o : Option Halt). or_stop (frame_stop a.piece o) (stop_behind behind_frames)) none

  pub stop_close : (e : Event) → halt_over warm (new_run a) s.frames ≡ None → close_event a.piece s.close ≡ Some e → file_stop warm a s ≡ Some (Behind e)
  stop_close e none is = stop_later none ∙ ap (λ (o : Option Event). stop_behind (or_event o (end_event a.piece (end (run_over (new_run a) (coded_of s)))))) is

  pub stop_end : (q : Result Piece SpliceFault) → halt_over warm (new_run a) s.frames ≡ None → s.close ≡ Marked End → end (run_over (new_run a) (coded_of s)) ≡ q → file_stop warm a s ≡ stop_behind (end_event a.piece q)
  stop_end q none ends is =
      stop_later none
      ∙ (ap (λ (c : Close). stop_behind (or_event (close_event a.piece c) (end_event a.piece (end (run_over (new_run a) (coded_of s)))))) ends ∙ ap (λ (x : Result Piece SpliceFault). stop_behind (end_event a.piece x)) is)
