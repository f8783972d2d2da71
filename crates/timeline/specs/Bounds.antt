-- The frames that stand at positions: a frame's position is its number times the frame length.
use Rattle.std.specs.Prelude.{ℕ, ◌/◌, ◌%◌, Option, Some, None, Result, Ok, Err, ◌==◌, if◌then◌else◌}
use Rattle.timeline.specs.declared.piece.PieceBounds.{PieceBounds}
use Rattle.timeline.specs.declared.fault.PlanFault.{PlanFault}
use Rattle.timeline.specs.declared.fault.PlanFault.TheVariants.{NoFrameAt}

-- The bounds of a piece that begins at a frame, up to a position, or to the end of its stream.
abbrev pub bounds_until : ℕ → ℕ → ℕ → Option ℕ → Result PieceBounds PlanFault
bounds_until piece frame_length from None = Ok (record { from = from; to = None })
bounds_until piece frame_length from (Some until) =
    if until % frame_length == 0 then Ok (record { from = from; to = Some (until / frame_length) }) else Err (NoFrameAt piece until)

-- The bounds of a piece from a position up to another, or the first of the two at which no frame stands.
abbrev pub bounds_result : ℕ → ℕ → ℕ → Option ℕ → Result PieceBounds PlanFault
bounds_result piece frame_length at until =
    if at % frame_length == 0 then bounds_until piece frame_length (at / frame_length) until else Err (NoFrameAt piece at)
