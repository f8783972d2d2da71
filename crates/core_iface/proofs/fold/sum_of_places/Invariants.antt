use Rattle.std.proofs.Common.{◌≡◌, ◌*◌, ◌%◌, take}
use Rattle.core_iface.specs.Folding.{places}
use Rattle.core_iface.proofs.fold.sum_of_places.Given as goal

-- the places of the first words
abbrev pub invariant-loop-i : goal.invariant-loop-i
invariant-loop-i l = l.sum ≡ places 1 (take (64 * l.i) l.bits) % 32768
