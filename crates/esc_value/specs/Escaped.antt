-- Numbers of a bits, or of b more where these are all ones, or of c more where the next b are too (ISO/IEC 23003-3,
-- escapedValue()).
use Rattle.std.specs.Prelude.{◌≡◌, ℕ, ◌+◌, ◌-◌, ◌^◌, ◌≤◌, Bool, true, List, ◌++◌, replicate, Option, Some, None, nat_lt, ◌==◌, if◌then◌else◌}
use Rattle.bit_core.specs.declared.faults.Short.{Short}
use Rattle.layout.specs.Text.{num}
use Rattle.layout.specs.Layout.{Layout, both, shaped, wrapped, where_set, whole, IsProperPrefix}
use Rattle.bit_core.specs.Plain.{bits, short_at}

-- the largest number that can be spelled
abbrev pub largest : ℕ → ℕ → ℕ → ℕ
largest a b c = (2 ^ a - 1) + (2 ^ b - 1) + (2 ^ c - 1)

-- n bits of 1
abbrev pub ones : ℕ → List Bool
ones n = replicate n true

-- The spelling of v: a bits; or a ones and b bits; or a ones, b ones and c bits.
abbrev pub escaped_text : ℕ → ℕ → ℕ → ℕ → List Bool
escaped_text a b c v =
    if nat_lt v (2 ^ a - 1) then num a v else
    if nat_lt v (2 ^ a + 2 ^ b - 2) then ones a ++ num b (v - (2 ^ a - 1)) else
    ones (a + b) ++ num c (v - (2 ^ a + 2 ^ b - 2))

-- the numbers that are added up
abbrev pub parts : ℕ → ℕ → ℕ → ℕ × Option (ℕ × Option ℕ)
parts a b v =
    if nat_lt v (2 ^ a - 1) then (v, None) else
    if nat_lt v (2 ^ a + 2 ^ b - 2) then (2 ^ a - 1, Some (v - (2 ^ a - 1), None)) else
    (2 ^ a - 1, Some (2 ^ b - 1, Some (v - (2 ^ a + 2 ^ b - 2))))

abbrev pub third : Option ℕ → ℕ
third None = 0
third (Some z) = z

abbrev pub second : Option (ℕ × Option ℕ) → ℕ
second None = 0
second (Some y) = y.0 + third y.1

abbrev pub added : ℕ × Option (ℕ × Option ℕ) → ℕ
added x = x.0 + second x.1

-- the fields, one after another
abbrev pub fields : ℕ → ℕ → ℕ → Layout (ℕ × Option (ℕ × Option ℕ)) Short
fields a b c = both (bits a) (λ x. where_set (x == 2 ^ a - 1) (both (bits b) (λ y. where_set (y == 2 ^ b - 1) (bits c))))

-- the same fields as their sum
abbrev pub summed : ℕ → ℕ → ℕ → Layout ℕ Short
summed a b c = shaped (parts a b) added (fields a b c)

-- Numbers up to the largest. The one fault is that the text ends within a spelling, and it stands at the first bit.
abbrev pub escaped : ℕ → ℕ → ℕ → Layout ℕ Short
escaped a b c = record {
  Fits = λ v. v ≤ largest a b c;
  spelling = escaped_text a b c;
  Faults = λ at f t. (f ≡ short_at at) × ((v : ℕ) × (v ≤ largest a b c) × IsProperPrefix t (escaped_text a b c v));
  read = let L = whole short_at (summed a b c) in L.read;
}

-- the same of a format with faults of its own
abbrev pub escaped_value : {F : Type 0} → (Short → F) → ℕ → ℕ → ℕ → Layout ℕ F
escaped_value wrap a b c = wrapped wrap (escaped a b c)
