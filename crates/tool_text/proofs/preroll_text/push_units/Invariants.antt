use Rattle.std.proofs.Common.{◌≡◌, ◌++◌, drop}
use Rattle.tool_text.specs.PreRollText.{units_from}
use Rattle.tool_text.proofs.preroll_text.push_units.Given as goal

abbrev pub invariant-loop-k : goal.invariant-loop-k
invariant-loop-k l = l.lines ++ units_from l.k (drop l.k l.units) ≡ l.fn.lines ++ units_from 0 l.units
