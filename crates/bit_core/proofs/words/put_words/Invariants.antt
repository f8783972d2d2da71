use Rattle.std.proofs.Common.{◌≡◌, ◌*◌, take, drop}
use Rattle.layout.specs.Text.{bits_of}
use Rattle.bit_core.specs.Words.{spread}
use Rattle.bit_core.proofs.words.put_words.Given as goal

abbrev pub invariant-loop-i : goal.invariant-loop-i
invariant-loop-i l = spread (take l.i l.out) ≡ take (64 * l.i) (drop l.at (bits_of l.bytes))
