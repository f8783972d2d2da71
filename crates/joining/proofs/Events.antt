-- The first event of one file, from what a command on pieces takes of it.
use Rattle.std.proofs.Common.{◌≡◌, ℕ, List, [], ◌∷◌, ◌++◌, map, Option, Some, None, Result, Ok, Err, false, refl, sym, ap, ◌∙◌}
use Rattle.std.proofs.lemmas.List.{append-nil, append_assoc}
use Rattle.usac_cfg.specs.declared.usac_config.UsacConfig.{UsacConfig}
use Rattle.timeline.specs.declared.piece.Piece.{Piece}
use Rattle.plans.specs.Coded.{Coded}
use Rattle.splicer.specs.declared.asked.Asked.{Asked}
use Rattle.splicer.specs.declared.fault.SpliceFault.{SpliceFault}
use Rattle.splicer.specs.Pieces.{fault_over}
use Rattle.splicer.specs.Rules.{or_then}
use Rattle.splicer.specs.Runs.{RunValue, new_run, run_over, fault, end}
use Rattle.core_iface.specs.Decoding.{Definitions}
use Rattle.tool_text.specs.declared.refusal.Refusal.{Refusal}
use Rattle.au_stream.specs.Frames.{Frame, config_of}
use Rattle.au_stream.specs.Script.{Mark, End, SyncLost, BadElement, Truncated, TooLarge}
use Rattle.commands.specs.Commands.{TakesAll, TakesEnd}
use Rattle.commands.specs.Ending.{refusal_of_mark}
use Rattle.playing.specs.Spliced.{coded}
use Rattle.joining.specs.Refusals.{refusal_of_splice}
use Rattle.joining.specs.Renditions.{PieceAt, asked_at, run_at, BreaksRule}
use Rattle.joining.specs.Planning.{planning, TellsPiece}
use Rattle.joining.specs.Events.{Close, Marked, FileScript, Event, Rule, AtMark, or_event, rule_event, close_event, end_event, coded_of, file_event, told_by, file_line}
use Rattle.joining.proofs.Rules.{IsTold, IsEndTold, frame_told, end_told}
use Rattle.joining.proofs.PlanSteps.{run_at_push}

-- a rule that no refusal tells is not broken
none_of : (o : Option SpliceFault) → IsTold o → ((e : SpliceFault) (r : Refusal) → o ≡ Some e → refusal_of_splice e ≡ Some r → ⊥) → o ≡ None
none_of None told never = refl
none_of (Some e) told never = absurd (never e told.0 refl told.1)

then_none : (x y : Option SpliceFault) → x ≡ None → or_then x y ≡ y
then_none x y h = ap (λ (z : Option SpliceFault). or_then z y) h

then_some : (x y : Option SpliceFault) (e : SpliceFault) → x ≡ Some e → or_then x y ≡ Some e
then_some x y e h = ap (λ (z : Option SpliceFault). or_then z y) h

-- ---- the frames

module _ (d : Definitions) (at : PieceAt) where
  pub here_none : (before : List Frame) (f : Frame) → ((r : Refusal) → BreaksRule d at before f r → ⊥) → fault (run_at at before) (d.warm (config_of f)) (coded f) ≡ None
  here_none before f takes = none_of _ (frame_told (run_at at before) (d.warm (config_of f)) (coded f)) (λ e r is told. takes r (e, is, told))

  -- behind frames that break no rule comes what comes behind them
  behind_taken : (before fs : List Frame) (later : List Coded) → TakesAll (planning d at) before fs → fault_over d.warm (run_at at before) (map coded fs ++ later) ≡ fault_over d.warm (run_at at (before ++ fs)) later
  behind_taken before [] later h = ap (λ (xs : List Frame). fault_over d.warm (run_at at xs) later) (sym (append-nil before))
  behind_taken before (f ∷ fs) later h =
      then_none _ _ (here_none before f h.0)
      ∙ (ap (λ (v : RunValue). fault_over d.warm v (map coded fs ++ later)) (sym (run_at_push at before f))
      ∙ (behind_taken (before ++ f ∷ []) fs later h.1
      ∙ ap (λ (xs : List Frame). fault_over d.warm (run_at at xs) later) (append_assoc before (f ∷ []) fs)))

  -- no rule is broken by frames that are taken
  pub taken_none : (frames : List Frame) → TakesAll (planning d at) [] frames → fault_over d.warm (new_run (asked_at at)) (map coded frames) ≡ None
  taken_none frames h = ap (fault_over d.warm (new_run (asked_at at))) (sym (append-nil (map coded frames))) ∙ behind_taken [] frames [] h

  -- the rule that the next frame breaks
  pub next_breaks : (frames : List Frame) (f : Frame) (later : List Frame) (r : Refusal) (e : SpliceFault) → TakesAll (planning d at) [] frames → fault (run_at at frames) (d.warm (config_of f)) (coded f) ≡ Some e
      → fault_over d.warm (new_run (asked_at at)) (map coded frames ++ map coded (f ∷ later)) ≡ Some e
  next_breaks frames f later r e h is = behind_taken [] frames (map coded (f ∷ later)) h ∙ then_some _ _ e is

  -- the piece that is there
  pub end_is : (frames : List Frame) → (run_at at frames).ended ≡ false → TakesEnd (planning d at) frames → (p : Piece) × (end (run_at at frames) ≡ Ok p)
  end_is frames going takes = by_end (end (run_at at frames)) refl (end_told (run_at at frames) going)
    where
      by_end : (q : Result Piece SpliceFault) → end (run_at at frames) ≡ q → IsEndTold q → (p : Piece) × (end (run_at at frames) ≡ Ok p)
      by_end (Ok p) is told = (p, is)
      by_end (Err e) is told = absurd (takes told.0 (e, is, told.1))

-- ---- one file

-- frames break no rule
event_behind : (warm : UsacConfig → ℕ) (a : Asked) (s : FileScript) → fault_over warm (new_run a) (coded_of s) ≡ None → file_event warm a s ≡ or_event (close_event a.piece s.close) (end_event a.piece (end (run_over (new_run a) (coded_of s))))
event_behind warm a s h = ap (λ (o : Option SpliceFault). or_event (rule_event a.piece o) (or_event (close_event a.piece s.close) (end_event a.piece (end (run_over (new_run a) (coded_of s)))))) h

pub event_rule : (warm : UsacConfig → ℕ) (a : Asked) (s : FileScript) (e : SpliceFault) → fault_over warm (new_run a) (coded_of s) ≡ Some e → file_event warm a s ≡ Some (Rule a.piece e)
event_rule warm a s e h = ap (λ (o : Option SpliceFault). or_event (rule_event a.piece o) (or_event (close_event a.piece s.close) (end_event a.piece (end (run_over (new_run a) (coded_of s)))))) h

pub event_close : (warm : UsacConfig → ℕ) (a : Asked) (s : FileScript) (e : Event) → fault_over warm (new_run a) (coded_of s) ≡ None → close_event a.piece s.close ≡ Some e → file_event warm a s ≡ Some e
event_close warm a s e h is = event_behind warm a s h ∙ ap (λ (o : Option Event). or_event o (end_event a.piece (end (run_over (new_run a) (coded_of s))))) is

pub event_end : (warm : UsacConfig → ℕ) (a : Asked) (s : FileScript) (q : Result Piece SpliceFault) → fault_over warm (new_run a) (coded_of s) ≡ None → s.close ≡ Marked End → end (run_over (new_run a) (coded_of s)) ≡ q → file_event warm a s ≡ end_event a.piece q
event_end warm a s q h ends is =
    event_behind warm a s h
    ∙ (ap (λ (c : Close). or_event (close_event a.piece c) (end_event a.piece (end (run_over (new_run a) (coded_of s))))) ends ∙ ap (end_event a.piece) is)

-- a mark that is a refusal is an event
pub mark_event : (k : ℕ) (mark : Mark) (r : Refusal) → refusal_of_mark mark ≡ Some r → close_event k (Marked mark) ≡ Some (AtMark k mark)
mark_event k End r is = absurd cc
mark_event k (SyncLost byte) r is = refl
mark_event k (BadElement frame fault) r is = refl
mark_event k (Truncated byte) r is = refl
mark_event k TooLarge r is = absurd cc

-- the line of a piece
pub line_is : (at : PieceAt) (frames : List Frame) (close : Close) (text : List ℕ) → TellsPiece at frames text → file_line (asked_at at) (record { frames = frames; close = close }) ≡ text
line_is at frames close text h = ap (told_by at.place (asked_at at) (map coded frames)) h.1 ∙ sym h.2
