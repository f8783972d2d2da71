use Rattle.std.proofs.Common.{◌≡◌, drop}
use Rattle.stream_edit.specs.Frames.{pairs_of}
use Rattle.ipf_strip.specs.Rules.{targets_rule}
use Rattle.ipf_strip.proofs.rules.check_targets.Given as goal

abbrev pub invariant-loop-target : goal.invariant-loop-target
invariant-loop-target l = targets_rule l.fn.tail (pairs_of l.fn.frames) l.fn.targets ≡ targets_rule l.fn.tail (pairs_of l.fn.frames) (drop l.target-index l.targets)
