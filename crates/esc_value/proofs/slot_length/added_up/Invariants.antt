use Rattle.std.proofs.Common.{◌≡◌, length}
use Rattle.layout.specs.Reader.{left}
use Rattle.esc_value.proofs.SlotSteps.{SoFar}
use Rattle.esc_value.proofs.slot_length.added_up.Given as goal

abbrev pub invariant-bytes : goal.invariant-bytes
invariant-bytes l = record {
  so_far : SoFar l.initial.reader l.reader l.length;
  start : l.start ≡ l.initial.reader.at;
}

abbrev pub decreases-bytes : goal.decreases-bytes
decreases-bytes l = length (left l.reader)
