use Rattle.std.proofs.Common.{◌≡◌, ◌+◌, ◌++◌, drop}
use Rattle.stream_edit.specs.Edited.{slots_in}
use Rattle.stream_edit.specs.Steps.{MayChange}
use Rattle.stream_edit.proofs.change.slots_in.Given as goal

abbrev pub invariant-loop-slot : goal.invariant-loop-slot
invariant-loop-slot g l = record {
  may : MayChange (g.C.Change.May l.fn.change) l.fn.targets l.frame l.fn.config (drop l.slot-index l.slots);
  frame : l.frame ≡ l.fn.first + l.slot-index;
  so_far : l.changed ++ slots_in (g.C.Change.new l.fn.change) l.fn.targets l.frame (drop l.slot-index l.slots) ≡ slots_in (g.C.Change.new l.fn.change) l.fn.targets l.fn.first l.fn.slots;
}
