use Rattle.std.proofs.Common.{◌≡◌, ◌+◌, ◌/◌, arith, refl}
use Rattle.bit_core.proofs.ByteLemmas.{whole_bytes}
use Rattle.bit_core.proofs.words.whole_bytes.Goals as goal

pub returns : goal.returns
returns c =
    let up : c.div_ceil.result ≡ (c.args.len + 7) / 8 = omega (arith, c.div_ceil.ensures) in
    rw (c.truncate.ensures.items, up) (whole_bytes _ _ c.args.len _ c.in_ok-out.ensures c.requires.packed refl)
