use Rattle.std.proofs.Common.{◌≡◌, ◌≤◌, ◌-◌, length, drop}
use Rattle.std.specs.Prelude.{not}
use Rattle.std.specs.List.{list_all}
use Rattle.ipf_frame.proofs.stripping.ends_in_zeros.Given as goal

-- All bits before the place are zeros: whether those behind it are decides.
abbrev pub invariant-loop-at : goal.invariant-loop-at
invariant-loop-at l = (l.n ≤ length l.bits) × (length l.bits - l.n ≤ l.at) × (l.at ≤ length l.bits) × (list_all not (drop (length l.bits - l.n) l.bits) ≡ list_all not (drop l.at l.bits))

abbrev pub decreases-loop-at : goal.decreases-loop-at
decreases-loop-at l = length l.bits - l.at
