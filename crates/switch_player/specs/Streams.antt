-- A stream decoded alone: from its first frame, with what that one carries.
use Rattle.std.specs.Prelude.{ℕ, ◌+◌, List, [], ◌∷◌, take, drop, ℤ}
use Rattle.core_iface.specs.Decoding.{Definitions, out, after}
use Rattle.preroll.specs.Carrying.{Shown}
use Rattle.plans.specs.StreamUnits.{units_of, head_of}

-- a stream decoded alone, a block for each frame
abbrev pub alone : Definitions → List Shown → List (List ℤ)
alone d [] = []
alone d (f ∷ fs) = drop (head_of (f ∷ fs)) (out d f.config (d.init f.config) (units_of (f ∷ fs)))

-- what the core drains before frame j of a stream decoded alone
abbrev pub left : Definitions → List Shown → ℕ → List ℤ
left d [] j = []
left d (f ∷ fs) j = d.drain f.config (after d f.config (d.init f.config) (take (head_of (f ∷ fs) + j) (units_of (f ∷ fs))))
