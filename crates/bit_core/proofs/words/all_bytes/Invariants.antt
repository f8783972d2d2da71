use Rattle.std.proofs.Common.{◌≡◌, take}
use Rattle.layout.specs.Text.{bits_of}
use Rattle.bit_core.specs.Words.{spread}
use Rattle.bit_core.proofs.words.all_bytes.Given as goal

abbrev pub invariant-loop-word : goal.invariant-loop-word
invariant-loop-word l = bits_of l.out.items ≡ spread (take l.word-index l.words)
