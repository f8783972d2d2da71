-- The first event of renditions, in the order of the files and of their frames, by their scripts.
use Rattle.std.specs.Prelude.{◌≡◌, ℕ, ◌+◌, List, [], ◌∷◌, ◌++◌, map, Option, Some, None, Result, Ok, Err}
use Rattle.usac_cfg.specs.declared.usac_config.UsacConfig.{UsacConfig}
use Rattle.timeline.specs.declared.piece.Piece.{Piece}
use Rattle.timeline.specs.declared.fault.PlanFault.{PlanFault}
use Rattle.timeline.specs.Order.{order_result}
use Rattle.timeline.specs.Plan.{first_position}
use Rattle.plans.specs.Coded.{Coded}
use Rattle.plans.specs.WholeStream.{stream_config}
use Rattle.splicer.specs.declared.asked.Asked.{Asked}
use Rattle.splicer.specs.declared.fault.SpliceFault.{SpliceFault}
use Rattle.splicer.specs.declared.fault.SpliceFault.TheVariants.{Plan}
use Rattle.splicer.specs.Pieces.{asked, fault_over}
use Rattle.splicer.specs.Runs.{new_run, run_over, end}
use Rattle.au_stream.specs.Frames.{Frame}
use Rattle.au_stream.specs.Script.{Mark, End, SyncLost, BadElement, Truncated, TooLarge, IsScript}
use Rattle.playing.specs.Spliced.{coded}
use Rattle.joining.specs.Planning.{turns, no_lead, lead_of, line_of, piece_in}

-- Why no more frames of a file are known: this is the mark of its script, or a read of it failed.
pub data Close : Type 0 where
  Marked : (mark : Mark) → Close
  Unread : Close

-- what is known of a file
pub record FileScript : Type 0 where
  pub frames : List Frame
  pub close : Close

-- What ends a command on pieces before all is done, by its files alone; or that a read failed.
pub data Event : Type 0 where
  -- piece k breaks this rule
  Rule : (piece : ℕ) (fault : SpliceFault) → Event
  -- the file of piece k has this mark, and its frames break no rule
  AtMark : (piece : ℕ) (mark : Mark) → Event
  -- a read of a file failed
  NotRead : Event

-- one event, and then the others
abbrev pub or_event : Option Event → Option Event → Option Event
or_event None later = later
or_event (Some e) later = Some e

-- ---- in one file

abbrev pub rule_event : ℕ → Option SpliceFault → Option Event
rule_event k None = None
rule_event k (Some e) = Some (Rule k e)

-- a file that ends behind its last frame is none
abbrev pub close_event : ℕ → Close → Option Event
close_event k (Marked End) = None
close_event k (Marked (SyncLost byte)) = Some (AtMark k (SyncLost byte))
close_event k (Marked (BadElement frame fault)) = Some (AtMark k (BadElement frame fault))
close_event k (Marked (Truncated byte)) = Some (AtMark k (Truncated byte))
close_event k (Marked TooLarge) = Some (AtMark k TooLarge)
close_event k Unread = Some NotRead

abbrev pub end_event : ℕ → Result Piece SpliceFault → Option Event
end_event k (Ok p) = None
end_event k (Err e) = Some (Rule k e)

abbrev pub coded_of : FileScript → List Coded
coded_of s = map coded s.frames

-- The first event of a piece: the first rule that a frame breaks; then that the file does not end behind its last frame; then that
-- the rendition lacks the piece.
abbrev pub file_event : (UsacConfig → ℕ) → Asked → FileScript → Option Event
file_event warm a s =
    or_event (rule_event a.piece (fault_over warm (new_run a) (coded_of s)))
    (or_event (close_event a.piece s.close) (end_event a.piece (end (run_over (new_run a) (coded_of s)))))

-- the line of a piece that is there
abbrev pub told_by : ℕ → Asked → List Coded → Result Piece SpliceFault → List ℕ
told_by k a fs (Ok p) = line_of k p (lead_of no_lead (turns (new_run a) fs))
told_by k a fs (Err e) = []

abbrev pub file_line : Asked → FileScript → List ℕ
file_line a s = told_by a.piece a (coded_of s) (end (run_over (new_run a) (coded_of s)))

-- ---- in all files

-- The first event from piece k on, behind a rendition of that configuration, if there is one.
abbrev pub files_event : (UsacConfig → ℕ) → ℕ → Option UsacConfig → List ℕ → List FileScript → Option Event
files_event warm k before [] ss = None
files_event warm k before (at ∷ ats) [] = None
files_event warm k before (at ∷ ats) (s ∷ ss) =
    or_event (file_event warm (asked k at (first_position ats) before) s) (files_event warm (k + 1) (stream_config (coded_of s)) ats ss)

-- lines up to an event
abbrev pub before_event : Option Event → List ℕ → List ℕ → List ℕ
before_event (Some e) line later = []
before_event None line later = line ++ later

-- The lines of the pieces before it.
abbrev pub files_lines : (UsacConfig → ℕ) → ℕ → Option UsacConfig → List ℕ → List FileScript → List ℕ
files_lines warm k before [] ss = []
files_lines warm k before (at ∷ ats) [] = []
files_lines warm k before (at ∷ ats) (s ∷ ss) =
    let a = asked k at (first_position ats) before in
    before_event (file_event warm a s) (file_line a s) (files_lines warm (k + 1) (stream_config (coded_of s)) ats ss)

abbrev pub order_event : Result (Unit {0}) PlanFault → Option Event
order_event (Ok x) = None
order_event (Err e) = Some (Rule (piece_in e) (Plan e))

-- The first event of a plan: positions that do not rise, and then the first of its pieces.
abbrev pub first_event : (UsacConfig → ℕ) → List ℕ → List FileScript → Option Event
first_event warm positions scripts = or_event (order_event (order_result positions)) (files_event warm 0 None positions scripts)

-- what `plan` writes before it
abbrev pub plan_lines : (UsacConfig → ℕ) → List ℕ → List FileScript → List ℕ
plan_lines warm positions scripts = before_event (order_event (order_result positions)) [] (files_lines warm 0 None positions scripts)

-- ---- scripts of texts

-- this is the script of a file with these bytes
abbrev pub IsScriptOf : List ℕ → FileScript → Type 0
IsScriptOf text s = (mark : Mark) × (s.close ≡ Marked mark) × IsScript text s.frames mark

-- these are the scripts of files
abbrev pub AreScripts : List (List ℕ) → List FileScript → Type 0
AreScripts [] [] = Unit {0}
AreScripts [] (s ∷ ss) = ⊥
AreScripts (text ∷ texts) [] = ⊥
AreScripts (text ∷ texts) (s ∷ ss) = IsScriptOf text s × AreScripts texts ss
