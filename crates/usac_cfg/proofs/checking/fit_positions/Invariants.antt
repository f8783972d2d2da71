use Rattle.std.proofs.Common.{take, ◌<◌}
use Rattle.std.specs.List.{AllByRecursion}
use Rattle.usac_cfg.proofs.checking.fit_positions.Given as goal

abbrev pub invariant-loop-value : goal.invariant-loop-value
invariant-loop-value l = AllByRecursion (λ p. p < 32) (take l.value-index l.values)
