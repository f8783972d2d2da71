use Rattle.std.proofs.Common.{arith, ◌∙◌}
use Rattle.layout.specs.Times.{times_read}
use Rattle.layout.proofs.Counted.{goes_on}
use Rattle.preroll.specs.PreRoll.{counted_bytes}
use Rattle.preroll.proofs.reading.read_each_unit_bytes.Goals as goal

pub loop-preserved : goal.loop-preserved
loop-preserved c =
    let read = c.in_ok-unit.ensures in
    let one = counted_bytes 16 16 0 in
    record {
      so_far = rw c.in_ok-push.ensures.ok (goes_on one c.loop.units c.args.count c.loop.counter c.loop.reader c.read_unit_bytes.new.reader c.in_ok-unit.unit (times_read one c.args.count c.args.reader.now) c.loop-test.true read.0 c.loop.invariant.so_far);
      same_text = read.1.0 ∙ c.loop.invariant.same_text;
      onwards = omega (arith, read.1.1, c.loop.invariant.onwards);
    }
