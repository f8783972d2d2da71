use Rattle.std.proofs.Common.{◌≡◌, ◌+◌, ◌*◌, ◌≤◌, drop}
use Rattle.core_iface.specs.Folding.{weighted}
use Rattle.core_iface.proofs.fold.weighted_sum.Given as goal

abbrev pub invariant-loop-i : goal.invariant-loop-i
invariant-loop-i l = record {
  small : l.sum ≤ 65535 * (l.i * 4);
  rest : l.sum + weighted (l.i + 2) (drop l.i l.past) ≡ weighted 2 l.past;
}
