-- The numbers of frames that are to be changed: targets, in rising order.
use Rattle.std.specs.Prelude.{ℕ, zero, suc, Bool, false, not, ◌||◌, ◌==◌, nat_lt, List, [], ◌∷◌, Option, Some, None, if◌then◌else◌}
use Rattle.std.specs.List.{list_any}

abbrev pub is_target : List ℕ → ℕ → Bool
is_target targets t = list_any (λ x. x == t) targets

-- one of so many frames, from that one on, is a target
abbrev pub has_target : List ℕ → ℕ → ℕ → Bool
has_target targets first zero = false
has_target targets first (suc n) = is_target targets first || has_target targets (suc first) n

-- the place of the first target that is below the least number which may stand there, or is no frame, of the targets from a place on
abbrev pub misplaced_from : ℕ → ℕ → ℕ → List ℕ → Option ℕ
misplaced_from frames least place [] = None
misplaced_from frames least place (t ∷ ts) = if nat_lt t least || not (nat_lt t frames) then Some place else misplaced_from frames (suc t) (suc place) ts

-- the place of the first target that is no frame of so many, or not larger than the one before it
abbrev pub misplaced : ℕ → List ℕ → Option ℕ
misplaced frames targets = misplaced_from frames 0 0 targets
