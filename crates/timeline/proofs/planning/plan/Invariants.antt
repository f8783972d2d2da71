use Rattle.std.proofs.Common.{◌≡◌, drop, None}
use Rattle.timeline.specs.Plan.{plan_from}
use Rattle.timeline.proofs.Before.{pieces_before}
use Rattle.timeline.proofs.planning.plan.Given as goal

-- the pieces so far, and then those of what is left, are the plan
abbrev pub invariant-loop-place : goal.invariant-loop-place
invariant-loop-place l = pieces_before l.pieces (plan_from l.place l.before (drop l.place l.shapes) (drop l.place l.positions)) ≡ plan_from 0 None l.shapes l.positions
