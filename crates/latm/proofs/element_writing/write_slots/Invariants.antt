use Rattle.std.proofs.Common.{◌≡◌, ◌++◌, take}
use Rattle.std.specs.List.{flat_map}
use Rattle.latm.specs.MuxElement.{slot_of_bytes}
use Rattle.latm.proofs.element_writing.write_slots.Given as goal

abbrev pub invariant-loop-slot : goal.invariant-loop-slot
invariant-loop-slot l = l.writer ≡ l.fn.writer ++ flat_map slot_of_bytes.spelling (take l.slot-index l.slots)
