use Rattle.std.proofs.Common.{◌≡◌, ◌++◌, take}
use Rattle.std.specs.List.{flat_map}
use Rattle.layout.specs.Text.{num}
use Rattle.usac_cfg.proofs.writing.write_each_position.Given as goal

abbrev pub invariant-loop-value : goal.invariant-loop-value
invariant-loop-value l = l.writer ≡ l.fn.writer ++ flat_map (num 5) (take l.value-index l.values)
