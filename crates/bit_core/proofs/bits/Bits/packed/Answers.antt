use Rattle.std.proofs.Common.{arith}
use Rattle.bit_core.proofs.TypeLemmas.{len_is}
use Rattle.bit_core.proofs.bits.Bits.packed.Goals as goal

pub returns-clause-holds : goal.returns-clause-holds
returns-clause-holds c = rw (c.deref.ensures.value, ← len_is _ _ c.args.self.now c.self.invariant.0 c.self.view_is) (record { packed = c.self.invariant.0; spelled = c.self.view_is })

pub returns-clause-limit : goal.returns-clause-limit
returns-clause-limit c = omega (arith, len_is _ _ c.args.self.now c.self.invariant.0 c.self.view_is, c.self.invariant.1)
