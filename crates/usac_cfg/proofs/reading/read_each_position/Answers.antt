use Rattle.std.proofs.Common.{arith, ◌∙◌, ap}
use Rattle.layout.specs.Layout.{error_mapped}
use Rattle.layout.specs.Times.{times_read}
use Rattle.layout.proofs.Counted.{goes_on}
use Rattle.usac_cfg.specs.Faults.{from_short}
use Rattle.bit_core.specs.Plain.{number}
use Rattle.usac_cfg.proofs.reading.read_each_position.Goals as goal

pub loop-preserved : goal.loop-preserved
loop-preserved c =
    let read = c.in_ok-position.ensures.exact in
    record {
      so_far = rw c.in_ok-push.ensures.ok (goes_on (number from_short 5) c.loop.positions c.args.count c.loop.counter c.loop.reader c.small.new.reader c.in_ok-position.position (times_read (number from_short 5) c.args.count c.args.reader.now) c.loop-test.true (ap (error_mapped from_short) read.0) c.loop.invariant.so_far);
      same_text = read.1.0 ∙ c.loop.invariant.same_text;
      onwards = omega (arith, read.1.1, c.loop.invariant.onwards);
    }
