use Rattle.bit_core.proofs.TypeLemmas.{len_is}
use Rattle.bit_core.proofs.bits.Bits.len.Goals as goal

pub returns : goal.returns
returns c = len_is _ _ _ c.self.invariant.0 c.self.view_is
