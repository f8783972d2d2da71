use Rattle.std.proofs.Common.{◌≡◌, ◌-◌, drop, get_or}
use Rattle.timeline.specs.Order.{order_from, order_result}
use Rattle.timeline.proofs.positions.check_positions.Given as goal

-- what is left of the positions decides
abbrev pub invariant-loop-piece : goal.invariant-loop-piece
invariant-loop-piece l = order_from l.piece (get_or l.positions (l.piece - 1) 0) (drop l.piece l.positions) ≡ order_result l.positions
