-- The frames of a stream that targets are.
use Rattle.std.specs.Prelude.{◌≡◌, ◌↔◌, ℕ, ◌-◌, ◌*◌, ◌/◌, ◌<◌, ◌≤◌, List, map}
use Rattle.std.specs.List.{range_with_len, Contains}
use Rattle.std.specs.List.Sorted.{IsStrictlyIncreasing}
use Rattle.editing.specs.declared.targets.Targets.{Targets}
use Rattle.editing.specs.declared.targets.Targets.TheVariants.{Each, Every}

-- once, twice, three times the step, and so on, below so many frames
abbrev pub multiples_below : ℕ → ℕ → List ℕ
multiples_below step frames = map (λ times. times * step) (range_with_len 1 ((frames - 1) / step))

-- the targets in a stream with so many frames, in order
abbrev pub targets_in : Targets → ℕ → List ℕ
targets_in (Each numbers) frames = numbers
targets_in (Every step) frames = multiples_below step frames

-- They are exactly the multiples from the step on that are numbers of frames, in rising order.
pub record AreMultiples (step frames : ℕ) (targets : List ℕ) : Type 0 where
  pub rise : IsStrictlyIncreasing targets
  pub are : (target : ℕ) → Contains targets target ↔ ((times : ℕ) × (1 ≤ times) × (target ≡ times * step) × (target < frames))

abbrev pub ListsMultiples : Type 0
ListsMultiples = (step frames : ℕ) → 1 ≤ step → AreMultiples step frames (multiples_below step frames)
