use Rattle.std.proofs.Common.{sym, ◌∙◌}
use Rattle.latm.proofs.RunSteps.{goes_on, ends, stops}
use Rattle.latm.proofs.pairs.read_run.Goals as goal

pub pairs-preserved : goal.pairs-preserved
pairs-preserved c = record {
  so_far = rw c.from.ensures (goes_on c.args.reader.now c.pairs.reader c.read_pair.new.reader c.pairs.count c.pairs.bits c.in-Ok.pair.0 c.in-Ok.pair.1 c.pairs.invariant.so_far c.in-Ok.ensures (sym (rw c.from.ensures at c.is_last.ensures) ∙ c.if-is_last.false));
  start = c.pairs.invariant.start;
}

pub returns-then-is_last : goal.returns-then-is_last
returns-then-is_last c = rw c.from.ensures (ends c.args.reader.now c.pairs.reader c.read_pair.new.reader c.pairs.count c.pairs.bits c.in-Ok.pair.0 c.in-Ok.pair.1 c.pairs.invariant.so_far c.in-Ok.ensures (sym (rw c.from.ensures at c.is_last.ensures) ∙ c.if-is_last.true))

pub returns-in-Err : goal.returns-in-Err
returns-in-Err c = rw c.pairs.invariant.start (stops c.args.reader.now c.pairs.reader c.read_pair.new.reader c.pairs.count c.pairs.bits c.in-Err.field-0 c.pairs.invariant.so_far c.in-Err.ensures)
