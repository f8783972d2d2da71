use Rattle.std.proofs.Common.{arith}
use Rattle.latm.proofs.PairWrites.{none_before, upper}
use Rattle.latm.proofs.pairs.write_upper.Goals as goal

pub returns-in_ok-write_pair-clause-ok : goal.returns-in_ok-write_pair-clause-ok
returns-in_ok-write_pair-clause-ok c = upper c.args.writer.now c.write_zeros.new.writer c.write_pair.new.writer c.args.count c.args.byte (omega (arith, c.if-count-gt0.true)) (omega (arith, c.ranges.byte.fits)) c.in_ok-write_zeros.ensures.ok c.in_ok-write_pair.ensures.ok

pub returns-else-count-gt0-clause-ok : goal.returns-else-count-gt0-clause-ok
returns-else-count-gt0-clause-ok c = none_before c.args.writer.now c.args.count c.args.byte (omega (arith, c.if-count-gt0.false))
