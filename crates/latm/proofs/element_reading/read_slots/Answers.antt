use Rattle.std.proofs.Common.{arith, ◌∙◌}
use Rattle.layout.specs.Times.{times_read}
use Rattle.layout.proofs.Counted.{goes_on}
use Rattle.latm.specs.MuxElement.{slot_of_bytes}
use Rattle.latm.proofs.element_reading.read_slots.Goals as goal

pub loop-preserved : goal.loop-preserved
loop-preserved c =
    let read = c.in_ok-slot.ensures in
    record {
      so_far = rw c.in_ok-push.ensures.ok (goes_on slot_of_bytes c.loop.slots c.args.count c.loop.counter c.loop.reader c.read_slot.new.reader c.in_ok-slot.slot (times_read slot_of_bytes c.args.count c.args.reader.now) c.loop-test.true read.0 c.loop.invariant.so_far);
      same_text = read.1.0 ∙ c.loop.invariant.same_text;
      onwards = omega (arith, read.1.1, c.loop.invariant.onwards);
    }
