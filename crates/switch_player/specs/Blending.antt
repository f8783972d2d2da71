-- How the samples of one stream fade into those of another. The standard says that they do (ISO/IEC 23003-3, applyCrossfade);
-- these numbers are this project's own.
use Rattle.std.specs.Prelude.{ℕ, ◌+◌, ◌-◌, ◌/◌, List, [], ◌∷◌, ℤ, pos, negsuc, ◌+ℤ◌, ◌*ℤ◌}

-- a number divided, rounded down
abbrev pub floor_div : ℤ → ℕ → ℤ
floor_div (pos a) n = pos (a / n)
floor_div (negsuc a) n = negsuc (a / n)

-- the mixture of an old and a new sample at a time, rounded down
abbrev pub mixed : ℕ → ℤ → ℤ → ℤ
mixed time old new = floor_div ((old *ℤ pos (128 - time)) +ℤ (new *ℤ pos time)) 128

-- The block from place i on, behind the old samples from there on. The samples of all channels stand one time after another.
abbrev pub blend_from : ℕ → ℕ → List ℤ → List ℤ → List ℤ
blend_from channels i [] xs = xs
blend_from channels i (o ∷ os) [] = []
blend_from channels i (o ∷ os) (x ∷ xs) = mixed (i / channels) o x ∷ blend_from channels (i + 1) os xs

-- the block, into whose first samples the old ones fade
abbrev pub blended : ℕ → List ℤ → List ℤ → List ℤ
blended channels old new = blend_from channels 0 old new
