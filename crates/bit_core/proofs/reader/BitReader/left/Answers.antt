use Rattle.std.proofs.Common.{arith, take}
use Rattle.std.proofs.lemmas.List.{length-take, length-drop}
use Rattle.layout.specs.Text.{bits_of}
use Rattle.layout.proofs.TextLemmas.{length-bits_of}
use Rattle.bit_core.proofs.reader.BitReader.left.Goals as goal

pub returns : goal.returns
returns c = rw (← c.self.view_is) (omega (arith, length-drop c.self.inside.at (take c.self.inside.end (bits_of c.self.inside.bytes.now)), length-take c.self.inside.end (bits_of c.self.inside.bytes.now), length-bits_of c.self.inside.bytes.now, c.self.invariant))
