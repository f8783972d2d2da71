use Rattle.std.proofs.Common.{take}
use Rattle.std.specs.List.{AllByRecursion}
use Rattle.usac_cfg.specs.ElementConfig.{IsWellFormed}
use Rattle.usac_cfg.proofs.checking.fit_elements.Given as goal

abbrev pub invariant-loop-value : goal.invariant-loop-value
invariant-loop-value l = AllByRecursion (IsWellFormed l.has_sbr) (take l.value-index l.values)
