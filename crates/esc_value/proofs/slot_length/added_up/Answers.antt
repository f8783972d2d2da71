use Rattle.std.proofs.Common.{arith}
use Rattle.esc_value.proofs.SlotSteps.{goes_on, ends, stops}
use Rattle.esc_value.proofs.slot_length.added_up.Goals as goal

pub bytes-preserved : goal.bytes-preserved
bytes-preserved c = record {
  so_far = rw c.from-length.ensures (goes_on c.args.reader.now c.bytes.reader c.small.new.reader c.bytes.length c.in-Ok.byte c.bytes.invariant.so_far c.in-Ok.ensures.exact c.if-byte.false);
  start = c.bytes.invariant.start;
}

pub returns-then-byte : goal.returns-then-byte
returns-then-byte c = record {
  exact = rw c.from-length.ensures (ends c.args.reader.now c.bytes.reader c.small.new.reader c.bytes.length c.in-Ok.byte c.bytes.invariant.so_far c.in-Ok.ensures.exact c.if-byte.true);
}

pub returns-in-Err : goal.returns-in-Err
returns-in-Err c = record {
  exact = stops c.args.reader.now c.bytes.reader c.small.new.reader c.bytes.length _ _ c.bytes.invariant.so_far c.in-Err.ensures.exact (omega (arith, c.bytes.invariant.start));
}
