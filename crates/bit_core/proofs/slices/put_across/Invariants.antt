use Rattle.std.proofs.Common.{◌≡◌, ℕ, ◌*◌, ◌<◌, get_or, take, drop}
use Rattle.layout.specs.Text.{bits_of}
use Rattle.bit_core.proofs.slices.put_across.Given as goal

abbrev pub invariant-loop-i : goal.invariant-loop-i
invariant-loop-i l = record {
  bytes : (k : ℕ) → k < l.i → get_or l.out k 0 < 256;
  same : bits_of (take l.i l.out) ≡ take (8 * l.i) (drop l.skipped (bits_of l.bytes));
}
