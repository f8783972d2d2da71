use Rattle.std.proofs.Common.{arith}
use Rattle.latm.proofs.SlotWrites.{slot_over, slot_written}
use Rattle.latm.proofs.element_writing.write_slot.Goals as goal

pub returns-then-slot-gt8191-clause-err : goal.returns-then-slot-gt8191-clause-err
returns-then-slot-gt8191-clause-err c = λ _. slot_over c.args.slot.now (omega (arith, c.if-slot-gt8191.true))

pub returns-clause-ok : goal.returns-clause-ok
returns-clause-ok c = slot_written c.args.writer.now c.write.new.writer c.put_bytes.new.self c.args.slot.now _ c.in_ok-write.ensures.ok c.in_ok-put_bytes.ensures.ok (omega (arith, c.if-slot-gt8191.false))
