use Rattle.std.proofs.Common.{take}
use Rattle.preroll.specs.Steps.{HaveNoPreRoll}
use Rattle.preroll.proofs.units.check_nested.Given as goal

abbrev pub invariant-loop-k : goal.invariant-loop-k
invariant-loop-k l = HaveNoPreRoll l.config (take l.k l.frames)
