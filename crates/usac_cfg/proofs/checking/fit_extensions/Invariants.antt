use Rattle.std.proofs.Common.{take}
use Rattle.std.specs.List.{AllByRecursion}
use Rattle.usac_cfg.specs.ConfigExtension.{IsWellFormed}
use Rattle.usac_cfg.proofs.checking.fit_extensions.Given as goal

abbrev pub invariant-loop-value : goal.invariant-loop-value
invariant-loop-value l = AllByRecursion IsWellFormed (take l.value-index l.values)
