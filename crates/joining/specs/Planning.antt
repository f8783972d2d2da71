-- What `plan` refuses, and what it tells of each piece.
use Rattle.std.specs.Prelude.{◌≡◌, ℕ, List, [], ◌∷◌, map, false, Some, None, Result, Ok, Err}
use Rattle.timeline.specs.declared.piece.Piece.{Piece}
use Rattle.timeline.specs.declared.fault.PlanFault.{PlanFault}
use Rattle.timeline.specs.declared.fault.PlanFault.TheVariants as plans
use Rattle.timeline.specs.Order.{order_result}
use Rattle.plans.specs.Coded.{Coded}
use Rattle.splicer.specs.declared.turn.Turn.{Turn}
use Rattle.splicer.specs.declared.turn.Turn.TheVariants.{Skip, Start, Join, Play, After}
use Rattle.splicer.specs.Runs.{RunValue, new_run, turn, behind, end}
use Rattle.core_iface.specs.Decoding.{Definitions}
use Rattle.tool_text.specs.declared.refusal.Within.TheVariants as inputs
use Rattle.tool_text.specs.PieceText.{piece_line}
use Rattle.au_stream.specs.Frames.{Frame}
use Rattle.commands.specs.Calling.{Effect}
use Rattle.commands.specs.Commands.{Command, opens_silently, feeds_none}
use Rattle.commands.specs.Doing.{IsRefusedBy}
use Rattle.commands.specs.Ending.{IsIdle}
use Rattle.commands.specs.OnInputs.{several, on_inputs}
use Rattle.playing.specs.Spliced.{coded}
use Rattle.joining.specs.declared.plan_task.Lead.{Lead}
use Rattle.joining.specs.declared.plan_task.Plan.{Plan}
use Rattle.joining.specs.Refusals.{refusal_of_plan}
use Rattle.joining.specs.Renditions.{PieceAt, asked_at, run_at, next_at, BreaksRule, LacksPiece, RenditionStands}

-- ---- a piece

-- the turns of frames, in order
abbrev pub turns : RunValue → List Coded → List Turn
turns v [] = []
turns v (f ∷ fs) = turn v f ∷ turns (behind v f) fs

-- a piece of which no frame was seen
abbrev pub no_lead : Lead
no_lead = record { units = 0; fade = false }

-- behind a turn: the piece begins with a start or a join, and with no other turn
abbrev pub lead_behind : Lead → Turn → Lead
lead_behind l Skip = l
lead_behind l (Start units fade) = record { units = units; fade = fade }
lead_behind l (Join units fade) = record { units = units; fade = fade }
lead_behind l Play = l
lead_behind l After = l

-- How the piece begins whose frames have these turns: how many units its start or its join carries, and whether that asks for a fade.
abbrev pub lead_of : Lead → List Turn → Lead
lead_of l [] = l
lead_of l (t ∷ ts) = lead_of (lead_behind l t) ts

abbrev pub lead_at : PieceAt → List Frame → Lead
lead_at at frames = lead_of no_lead (turns (new_run (asked_at at)) (map coded frames))

-- The line of the piece: the number of its first frame, that of the frame behind it, and how it begins.
abbrev pub line_of : ℕ → Piece → Lead → List ℕ
line_of place p l = piece_line place p.from p.to l.units l.fade

-- The rendition has the piece, and this is its line.
abbrev pub TellsPiece : PieceAt → List Frame → List ℕ → Type 0
TellsPiece at frames text = (p : Piece) × (end (run_at at frames) ≡ Ok p) × (text ≡ line_of at.place p (lead_at at frames))

-- ---- the command

-- `plan` checks each rendition, and writes the line of its piece at its end. It uses of the core no more than its warm-up.
abbrev pub planning : Definitions → PieceAt → Command
planning d at = record {
  within = Some (inputs.Piece at.place);
  opening = opens_silently;
  Refuses = BreaksRule d at;
  output = λ frames. [];
  RefusesEnd = LacksPiece at;
  Closes = TellsPiece at;
  plays = false;
  units = feeds_none;
  Serves = λ before f. Unit {0};
}

-- where the first file begins
abbrev pub first_at : List ℕ → PieceAt
first_at positions = record { positions = positions; place = 0; before = None }

-- the piece of a fault
abbrev pub piece_in : PlanFault → ℕ
piece_in (plans.BadOrder piece) = piece
piece_in (plans.NoFrameAt piece position) = piece
piece_in (plans.RateDiffers piece) = piece
piece_in (plans.ChannelsDiffer piece) = piece
piece_in (plans.PastEnd piece) = piece
piece_in (plans.Memory e) = 0

-- A command that is refused before any file is begun.
abbrev pub refused_before : PlanFault → Effect
refused_before fault = record {
  Does = λ texts taken t outcome. (taken ≡ []) × IsIdle t × IsRefusedBy (Some (inputs.Piece (piece_in fault))) (refusal_of_plan fault) outcome;
  Serves = λ texts. Unit {0};
  plays = false;
}

-- where the positions rise
abbrev pub where_ordered : Result (Unit {0}) PlanFault → Effect → Effect
where_ordered (Err fault) e = refused_before fault
where_ordered (Ok x) e = e

-- `plan` on files, of which pieces are wanted at these positions
abbrev pub plans_files : Definitions → List ℕ → Effect
plans_files d positions = where_ordered (order_result positions) (on_inputs (several (planning d) next_at false) (first_at positions))

-- ---- in the code

pub record PlanStands (at : PieceAt) (frames : List Frame) (task : Plan) : Type 0 where
  pub rendition : RenditionStands at frames task.renditions
  pub lead : task.lead ≡ lead_at at frames
