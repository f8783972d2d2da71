use Rattle.std.proofs.Common.{◌≡◌, ◌+◌, ◌≤◌, take}
use Rattle.ipf_insert.specs.Steps.{slot_count}
use Rattle.ipf_insert.proofs.target_rules.seek.Given as goal

abbrev pub invariant-loop-place : goal.invariant-loop-place
invariant-loop-place l = record {
  number : l.first ≡ l.fn.first + slot_count (take l.place l.elements);
  from : l.first ≤ l.fn.target;
}
