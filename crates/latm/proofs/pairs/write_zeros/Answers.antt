use Rattle.std.proofs.Common.{arith}
use Rattle.latm.proofs.PairWrites.{none_before, zero_more}
use Rattle.latm.proofs.pairs.write_zeros.Goals as goal

pub loop-init : goal.loop-init
loop-init c = none_before c.args.writer.now 0 0 (omega arith)

pub loop-preserved : goal.loop-preserved
loop-preserved c = zero_more c.args.writer.now c.loop.writer c.write_pair.new.writer c.loop.counter c.loop.invariant c.in_ok-write_pair.ensures.ok
