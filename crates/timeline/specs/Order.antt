-- Positions that rise, or the first one that does not.
use Rattle.std.specs.Prelude.{ℕ, ◌+◌, List, [], ◌∷◌, Result, Ok, Err, nat_lt, if◌then◌else◌}
use Rattle.timeline.specs.declared.fault.PlanFault.{PlanFault}
use Rattle.timeline.specs.declared.fault.PlanFault.TheVariants.{BadOrder}

-- Positions from that of piece k on, behind a position: each is larger than the one before it, or this is the first fault.
abbrev pub order_from : ℕ → ℕ → List ℕ → Result (Unit {0}) PlanFault
order_from k before [] = Ok tt
order_from k before (at ∷ ats) = if nat_lt before at then order_from (k + 1) at ats else Err (BadOrder k)

-- The positions rise, or this is the first fault.
abbrev pub order_result : List ℕ → Result (Unit {0}) PlanFault
order_result [] = Ok tt
order_result (at ∷ ats) = order_from 1 at ats
