use Rattle.std.proofs.Common.{◌+◌, ◌*◌, ◌++◌, take, drop}
use Rattle.layout.specs.Text.{bits_of}
use Rattle.bit_core.specs.Words.{Holds, text_of}
use Rattle.bit_core.proofs.words.push_from.Given as goal

abbrev pub invariant-loop-i : goal.invariant-loop-i
invariant-loop-i l = Holds l.words.items (l.len + 64 * l.i) (text_of l.len l.fn.words.items ++ take (64 * l.i) (drop l.at (bits_of l.bytes)))
