use Rattle.std.proofs.Common.{◌<◌, ◌*◌, ◌^◌}
use Rattle.layout.specs.Text.{bits_of}
use Rattle.bit_core.specs.Words.{ShowsFrom}
use Rattle.bit_core.proofs.slices.last_bytes.Given as goal

abbrev pub invariant-loop-i : goal.invariant-loop-i
invariant-loop-i l = (l.word < 2 ^ (8 * l.i)) × ShowsFrom (8 * l.i) l.word (bits_of l.bytes) (8 * l.at)
