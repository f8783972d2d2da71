use Rattle.std.proofs.Common.{◌≡◌, ◌++◌, take}
use Rattle.std.specs.List.{flat_map}
use Rattle.usac_cfg.specs.ConfigExtension.{config_extension}
use Rattle.usac_cfg.proofs.writing.write_each_extension.Given as goal

abbrev pub invariant-loop-value : goal.invariant-loop-value
invariant-loop-value l = l.writer ≡ l.fn.writer ++ flat_map config_extension.spelling (take l.value-index l.values)
