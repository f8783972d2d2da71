use Rattle.std.proofs.Common.{◌≡◌, ◌++◌, take}
use Rattle.std.specs.List.{flat_map}
use Rattle.preroll.specs.PreRoll.{counted_bytes}
use Rattle.preroll.proofs.writing.write_each.Given as goal

abbrev pub invariant-loop-unit : goal.invariant-loop-unit
invariant-loop-unit l = let one = counted_bytes 16 16 0 in l.writer ≡ l.fn.writer ++ flat_map one.spelling (take l.unit-index l.units)
