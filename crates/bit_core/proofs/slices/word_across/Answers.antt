use Rattle.std.proofs.Common.{◌≡◌, ◌+◌, ◌*◌, ◌/◌, ◌%◌, get_or, arith}
use Rattle.layout.specs.Text.{bits_of}
use Rattle.bit_core.specs.Words.{ShowsFrom}
use Rattle.bit_core.proofs.PeekLemmas.{peeks}
use Rattle.bit_core.proofs.slices.word_across.Goals as goal

pub returns : goal.returns
returns c =
    let at = 8 * c.args.byte + c.args.skipped in
    let d : (8 * c.args.byte + c.args.skipped) / 8 ≡ c.args.byte = omega arith in
    let m : (8 * c.args.byte + c.args.skipped) % 8 ≡ c.args.skipped = omega arith in
    let byte : c.from.result ≡ get_or c.args.bytes.now (c.args.byte + 8) 0 = c.from.ensures in
    let shows : ShowsFrom 64 c.eight_bytes-word.result (bits_of c.args.bytes.now) (8 * c.args.byte) = c.eight_bytes-word.ensures in
    rw m at (peeks c.args.bytes.now at c.eight_bytes-word.result c.from.result (rw byte (c.type_inv.bytes (c.args.byte + 8)).fits) (rw d byte) (rw d shows))
