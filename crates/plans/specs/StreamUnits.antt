-- The units of a stream that is decoded from its first frame on.
use Rattle.std.specs.Prelude.{◌≡◌, ℕ, ◌+◌, List, [], ◌∷◌, ◌++◌, length, map, take}
use Rattle.usac_frame.specs.Units.{UnitValue}
use Rattle.preroll.specs.Carrying.{Carried, Shown, units_in}

-- the units of a stream: what its first frame carries, and then each frame's own
abbrev pub units_of : List Shown → List UnitValue
units_of [] = []
units_of (f ∷ fs) = units_in f.carried ++ map (λ g. g.unit) (f ∷ fs)

-- how many units a stream has before those of its frames
abbrev pub head_of : List Shown → ℕ
head_of [] = 0
head_of (f ∷ fs) = length (units_in f.carried)

-- What is carried at a frame is faithful: its units are those that the stream itself has directly before the frame's own.
abbrev pub IsFaithful : List Shown → ℕ → Carried → Type 0
IsFaithful fs at k = (before : List UnitValue) × (take (head_of fs + at) (units_of fs) ≡ before ++ k.units)
