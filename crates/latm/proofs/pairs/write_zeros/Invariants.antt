use Rattle.std.proofs.Common.{◌≡◌, ◌++◌}
use Rattle.latm.specs.Pairs.{more_text}
use Rattle.latm.proofs.pairs.write_zeros.Given as goal

abbrev pub invariant-loop : goal.invariant-loop
invariant-loop l = l.writer ≡ l.initial.writer ++ more_text l.counter 0
