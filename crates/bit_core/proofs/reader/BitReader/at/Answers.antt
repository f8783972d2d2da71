use Rattle.std.proofs.Common.{arith}
use Rattle.std.proofs.lemmas.List.{length-take}
use Rattle.layout.specs.Text.{bits_of}
use Rattle.layout.proofs.TextLemmas.{length-bits_of}
use Rattle.bit_core.proofs.reader.BitReader.at.Goals as goal

pub returns-clause-within : goal.returns-clause-within
returns-clause-within c = rw (← c.self.view_is) (omega (arith, length-take c.self.inside.end (bits_of c.self.inside.bytes.now), length-bits_of c.self.inside.bytes.now, c.self.invariant))
