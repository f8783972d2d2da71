-- Renditions one after another, each with the piece that is wanted of it.
use Rattle.std.specs.Prelude.{◌≡◌, ℕ, ◌+◌, ◌<◌, ◌^◌, List, map, length, false, nat_lt, if◌then◌else◌, get_or, Option, Some, None, Result, Ok, Err}
use Rattle.usac_cfg.specs.declared.usac_config.UsacConfig.{UsacConfig}
use Rattle.timeline.specs.declared.piece.Piece.{Piece}
use Rattle.timeline.specs.Plan.{next_position}
use Rattle.plans.specs.Coded.{Coded}
use Rattle.plans.specs.WholeStream.{stream_config}
use Rattle.splicer.specs.declared.asked.Asked.{Asked}
use Rattle.splicer.specs.declared.turn.Turn.{Turn}
use Rattle.splicer.specs.declared.fault.SpliceFault.{SpliceFault}
use Rattle.splicer.specs.Pieces.{asked}
use Rattle.splicer.specs.Runs.{RunValue, new_run, run_over, fault, turn, behind, end}
use Rattle.core_iface.specs.Decoding.{Definitions}
use Rattle.tool_text.specs.declared.refusal.Refusal.{Refusal}
use Rattle.au_stream.specs.Frames.{Frame, config_of}
use Rattle.commands.specs.declared.frame_end.FrameEnd.{FrameEnd}
use Rattle.commands.specs.declared.frame_end.FrameEnd.TheVariants as ends
use Rattle.playing.specs.Spliced.{coded}
use Rattle.joining.specs.declared.renditions.Renditions.{Renditions}
use Rattle.joining.specs.Refusals.{refusal_of_splice}

-- Where the file of a piece begins: all positions, the number of the piece, and the configuration of the rendition before.
pub record PieceAt : Type 0 where
  pub positions : List ℕ
  pub place : ℕ
  pub before : Option UsacConfig

abbrev pub position_at : ℕ → List ℕ → ℕ
position_at place positions = get_or positions place 0

-- what is asked of the rendition: the piece from its position up to the next one
abbrev pub asked_at : PieceAt → Asked
asked_at at = asked at.place (position_at at.place at.positions) (next_position at.place at.positions) at.before

-- the run behind frames of it
abbrev pub run_at : PieceAt → List Frame → RunValue
run_at at frames = run_over (new_run (asked_at at)) (map coded frames)

-- the piece behind one, if there is another
abbrev pub next_place : ℕ → List ℕ → ℕ
next_place place positions = if nat_lt (place + 1) (length positions) then place + 1 else place

-- Where the file of the next piece begins, behind a rendition of these frames.
abbrev pub next_at : PieceAt → List Frame → PieceAt
next_at at frames = record { positions = at.positions; place = next_place at.place at.positions; before = stream_config (map coded frames) }

-- The frame is refused by the first rule that it breaks behind those before it, where a join needs the core's warm-up.
abbrev pub BreaksRule : Definitions → PieceAt → List Frame → Frame → Refusal → Type 0
BreaksRule d at before f r = (e : SpliceFault) × (fault (run_at at before) (d.warm (config_of f)) (coded f) ≡ Some e) × (refusal_of_splice e ≡ Some r)

-- The rendition has no such piece.
abbrev pub LacksPiece : PieceAt → List Frame → Refusal → Type 0
LacksPiece at frames r = (e : SpliceFault) × (end (run_at at frames) ≡ Err e) × (refusal_of_splice e ≡ Some r)

-- ---- in the code

-- The renditions before passed, and the check of this one was fed these frames.
pub record RenditionStands (at : PieceAt) (frames : List Frame) (r : Renditions) : Type 0 where
  pub positions : r.positions.items ≡ at.positions
  pub place : r.place ≡ at.place
  pub within : at.place < length at.positions
  pub few : length at.positions < 2 ^ 32
  pub run : r.run ≡ run_at at frames
  pub number : r.run.frames ≡ length frames
  pub going : r.run.ended ≡ false

-- The command ends by the first rule that is broken, or by want of memory.
abbrev pub StopsBy : Option SpliceFault → FrameEnd → Type 0
StopsBy broken (ends.Refused r) = (e : SpliceFault) × (broken ≡ Some e) × (refusal_of_splice e ≡ Some r)
StopsBy broken ends.WriteFault = ⊥
StopsBy broken ends.CoreFault = ⊥
StopsBy broken (ends.Memory e) = Unit {0}

-- What the check of a frame answers: its turn, where it breaks no rule, and the run stands behind it.
abbrev pub ChecksFrame : Result Turn FrameEnd → ℕ → Coded → RunValue → RunValue → Type 0
ChecksFrame (Ok t) need f old new = (fault old need f ≡ None) × (t ≡ turn old f) × (new ≡ behind old f)
ChecksFrame (Err stop) need f old new = StopsBy (fault old need f) stop

-- What it answers at the end: the piece, or the rule that is broken there.
abbrev pub GivesEnd : Result Piece FrameEnd → RunValue → Type 0
GivesEnd (Ok p) v = end v ≡ Ok p
GivesEnd (Err stop) v = (e : SpliceFault) × (end v ≡ Err e) × StopsBy (Some e) stop
