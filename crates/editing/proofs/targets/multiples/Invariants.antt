use Rattle.std.proofs.Common.{◌≡◌, ◌*◌, ◌-◌, ◌/◌, map}
use Rattle.std.specs.List.{range_with_len}
use Rattle.editing.proofs.targets.multiples.Given as goal

abbrev pub invariant-loop-count : goal.invariant-loop-count
invariant-loop-count l = record {
  items : l.list.items ≡ map (λ times. times * l.step) (range_with_len 1 l.count);
  count : l.count-end ≡ (l.frames - 1) / l.step;
}
