use Rattle.std.proofs.Common.{arith}
use Rattle.bit_core.proofs.PeekLemmas.{eight}
use Rattle.bit_core.proofs.slices.eight_bytes.Goals as goal

pub returns : goal.returns
returns c = rw c.from_be_bytes.ensures (eight c.args.bytes.now c.args.at (omega arith) (λ k. (c.type_inv.bytes k).fits))
