use Rattle.std.proofs.Common.{◌≡◌, ◌++◌, drop, map}
use Rattle.stream_edit.specs.Frames.{pairs_of}
use Rattle.stream_edit.proofs.frames.add_slots.Given as goal

abbrev pub invariant-loop-slot : goal.invariant-loop-slot
invariant-loop-slot l = pairs_of l.frames.items ++ map (λ au. (l.fn.config, au)) (drop l.slot-index l.slots) ≡ pairs_of l.fn.frames.items ++ map (λ au. (l.fn.config, au)) l.fn.slots
