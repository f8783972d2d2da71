use Rattle.bit_core.proofs.TypeLemmas.{bit_got, no_bit}
use Rattle.bit_core.proofs.bits.Bits.get.Goals as goal

pub returns-then-i-self : goal.returns-then-i-self
returns-then-i-self c = no_bit _ _ _ _ c.self.invariant.0 c.self.view_is c.if-i-self.true

pub returns : goal.returns
returns c = bit_got _ _ _ _ _ c.self.invariant.0 c.self.view_is c.if-i-self.false c.index-word.ensures
