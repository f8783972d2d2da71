use Rattle.std.proofs.Common.{◌≡◌, ◌+◌, ◌-◌}
use Rattle.stream_edit.specs.Targets.{has_target}
use Rattle.stream_edit.proofs.targets.has_target.Given as goal

abbrev pub invariant-loop-frame : goal.invariant-loop-frame
invariant-loop-frame l = has_target l.fn.targets l.fn.first l.fn.count ≡ has_target l.fn.targets l.frame (l.fn.first + l.fn.count - l.frame)
