use Rattle.std.proofs.Common.{◌≡◌, ◌++◌, length, drop}
use Rattle.ipf_insert.specs.Steps.{AreSmall, with_config, frames_where, refs}
use Rattle.ipf_insert.proofs.gathering.gather_slots.Given as goal

abbrev pub invariant-loop-slot : goal.invariant-loop-slot
invariant-loop-slot l = record {
  small : AreSmall (drop l.slot-index l.slots);
  so_far : frames_where l.same (length (refs l.aus.items)) (with_config l.config (drop l.slot-index l.slots)) ≡ frames_where l.same (length (refs l.fn.aus.items)) (with_config l.config l.slots);
  all : refs l.aus.items ++ drop l.slot-index l.slots ≡ refs l.fn.aus.items ++ l.slots;
}
