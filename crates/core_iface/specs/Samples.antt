-- Samples as raw bytes. The form is this project's own: no header, two bytes a sample.
use Rattle.std.specs.Prelude.{◌≡◌, ℕ, ◌/◌, ◌%◌, List, [], ◌∷◌, ◌++◌, ℤ}
use Rattle.std.proofs.Common.{refl, ap}
use Rattle.std.specs.Int.{w16, cast_unsigned}

-- Each sample is a two's complement number of 16 bits, in two bytes, the least significant first.
abbrev pub sample_bytes : List ℤ → List ℕ
sample_bytes [] = []
sample_bytes (x ∷ xs) = (cast_unsigned w16 x % 256) ∷ (cast_unsigned w16 x / 256) ∷ sample_bytes xs

-- samples that follow samples give bytes that follow their bytes
pub sample_bytes-append : (xs ys : List ℤ) → sample_bytes (xs ++ ys) ≡ sample_bytes xs ++ sample_bytes ys
sample_bytes-append [] ys = refl
sample_bytes-append (x ∷ xs) ys = ap (λ bytes. (cast_unsigned w16 x % 256) ∷ (cast_unsigned w16 x / 256) ∷ bytes) (sample_bytes-append xs ys)
