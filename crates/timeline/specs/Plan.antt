-- The pieces of a plan, or the first rule that its positions and its streams break.
use Rattle.std.specs.Prelude.{◌≡◌, ℕ, ◌+◌, List, [], ◌∷◌, Option, Some, None, Result, Ok, Err, drop, unwrap_or, nat_lt, ◌==◌, if◌then◌else◌}
use Rattle.timeline.specs.declared.shape.Shape.{Shape}
use Rattle.timeline.specs.declared.piece.Piece.{Piece}
use Rattle.timeline.specs.declared.piece.PieceBounds.{PieceBounds}
use Rattle.timeline.specs.declared.fault.PlanFault.{PlanFault}
use Rattle.timeline.specs.declared.fault.PlanFault.TheVariants.{RateDiffers, ChannelsDiffer, PastEnd, Memory}
use Rattle.timeline.specs.Order.{order_result}
use Rattle.timeline.specs.Bounds.{bounds_result}

-- ---- one piece

-- A piece from one frame up to another lies in a stream of so many frames.
abbrev pub piece_within : ℕ → ℕ → ℕ → ℕ → Result Piece PlanFault
piece_within piece frames from to =
    if nat_lt from frames then (if nat_lt frames to then Err (PastEnd piece) else Ok (record { from = from; to = to })) else Err (PastEnd piece)

-- What bounds are in such a stream; where they do not tell the end, it is the stream's.
abbrev pub piece_in : ℕ → ℕ → Result PieceBounds PlanFault → Result Piece PlanFault
piece_in piece frames (Err e) = Err e
piece_in piece frames (Ok b) = piece_within piece frames b.from (unwrap_or b.to frames)

-- A piece of a stream of this shape, from a position up to another one or to the stream's end.
abbrev pub placed : ℕ → Shape → ℕ → Option ℕ → Result Piece PlanFault
placed piece s at until = piece_in piece s.frames (bounds_result piece s.frame_length at until)

-- The same behind a stream of another shape: its rate and its number of channels go on.
abbrev pub piece_result : ℕ → Option Shape → Shape → ℕ → Option ℕ → Result Piece PlanFault
piece_result piece None s at until = placed piece s at until
piece_result piece (Some b) s at until =
    if b.rate == s.rate then (if b.channels == s.channels then placed piece s at until else Err (ChannelsDiffer piece)) else Err (RateDiffers piece)

-- ---- all pieces

-- the first of some positions
abbrev pub first_position : List ℕ → Option ℕ
first_position [] = None
first_position (at ∷ ats) = Some at

-- the position behind one
abbrev pub next_position : ℕ → List ℕ → Option ℕ
next_position place positions = first_position (drop (place + 1) positions)

abbrev pub with_pieces : Piece → Result (List Piece) PlanFault → Result (List Piece) PlanFault
with_pieces p (Err e) = Err e
with_pieces p (Ok ps) = Ok (p ∷ ps)

abbrev pub and_then : Result Piece PlanFault → Result (List Piece) PlanFault → Result (List Piece) PlanFault
and_then (Err e) rest = Err e
and_then (Ok p) rest = with_pieces p rest

-- The pieces from piece k on, behind a stream of some shape: piece after piece.
abbrev pub plan_from : ℕ → Option Shape → List Shape → List ℕ → Result (List Piece) PlanFault
plan_from k before [] ats = Ok []
plan_from k before (s ∷ ss) [] = Ok []
plan_from k before (s ∷ ss) (at ∷ ats) = and_then (piece_result k before s at (first_position ats)) (plan_from (k + 1) (Some s) ss ats)

abbrev pub where_ordered : Result (Unit {0}) PlanFault → Result (List Piece) PlanFault → Result (List Piece) PlanFault
where_ordered (Err e) plan = Err e
where_ordered (Ok x) plan = plan

-- The plan: positions that do not rise are refused before any piece.
abbrev pub plan_result : List Shape → List ℕ → Result (List Piece) PlanFault
plan_result shapes positions = where_ordered (order_result positions) (plan_from 0 None shapes positions)

-- The answer is this one, or memory was wanted.
abbrev pub PlansAs : Result (List Piece) PlanFault → Result (List Piece) PlanFault → Type 0
PlansAs (Ok pieces) wanted = Ok pieces ≡ wanted
PlansAs (Err (Memory e)) wanted = Unit {0}
PlansAs (Err e) wanted = Err e ≡ wanted
