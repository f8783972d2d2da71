use Rattle.std.proofs.Common.{◌≡◌, ◌++◌, drop}
use Rattle.stream_edit.proofs.editor.copied_slots.Given as goal

abbrev pub invariant-loop-slot : goal.invariant-loop-slot
invariant-loop-slot l = l.copied ++ drop l.slot-index l.slots ≡ l.fn.slots
