use Rattle.std.proofs.Common.{◌≡◌, drop}
use Rattle.stream_edit.specs.Targets.{misplaced, misplaced_from}
use Rattle.stream_edit.proofs.targets.first_misplaced.Given as goal

abbrev pub invariant-loop-place : goal.invariant-loop-place
invariant-loop-place l = misplaced l.fn.frames l.fn.targets ≡ misplaced_from l.fn.frames l.least l.place (drop l.place l.targets)
