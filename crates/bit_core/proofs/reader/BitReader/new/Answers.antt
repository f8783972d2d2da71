use Rattle.std.proofs.Common.{arith, ◌*◌, length, ◌≤◌, refl}
use Rattle.std.proofs.lemmas.List.{take_all}
use Rattle.layout.specs.Text.{bits_of}
use Rattle.layout.proofs.TextLemmas.{length-bits_of}
use Rattle.bit_core.proofs.reader.BitReader.new.Goals as goal

pub returns : goal.returns
returns c =
    let le : length (bits_of c.args.bytes.now) ≤ 8 * length c.args.bytes.now = omega (arith, length-bits_of c.args.bytes.now) in
    rw take_all refl
