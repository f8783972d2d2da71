use Rattle.std.proofs.Common.{◌≡◌, ◌++◌, take}
use Rattle.std.specs.List.{flat_map}
use Rattle.usac_cfg.specs.ElementConfig.{element}
use Rattle.usac_cfg.proofs.writing.write_each_element.Given as goal

abbrev pub invariant-loop-value : goal.invariant-loop-value
invariant-loop-value l = let L = element l.has_sbr in l.writer ≡ l.fn.writer ++ flat_map L.spelling (take l.value-index l.values)
