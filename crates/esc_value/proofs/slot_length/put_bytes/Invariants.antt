use Rattle.esc_value.proofs.SlotWrites.{Written}
use Rattle.esc_value.proofs.slot_length.put_bytes.Given as goal

abbrev pub invariant-loop : goal.invariant-loop
invariant-loop l = Written l.length l.counter l.initial.writer l.writer
