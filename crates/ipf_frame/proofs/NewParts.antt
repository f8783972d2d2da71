-- A new part 0 fits each element.
use Rattle.std.proofs.Common.{◌≡◌, ℕ, ◌<◌, ◌≤◌, Bool, true, false, List, length, All, refl, subst, arith}
use Rattle.std.specs.Prelude.{nat_lt, if◌then◌else◌}
use Rattle.std.specs.List.{AllByRecursion}
use Rattle.std.proofs.lemmas.Bool.Decides.{nat_tests}
use Rattle.std.proofs.lemmas.List.Elements.{recursion_from_All}
use Rattle.usac_cfg.specs.declared.extension_element.ExtConfig.{ExtConfig}
use Rattle.usac_frame.specs.declared.part.LengthForm.TheVariants.{Byte, Long}
use Rattle.usac_frame.specs.Part.{HasLength, AreMarks, has_marks, IsPart}
use Rattle.ipf_frame.specs.Frames.{form_of, new_part}

new_length : (default : ℕ) (n : ℕ) → n ≤ 65788 → HasLength default (form_of n) n
new_length default n le = by_test (nat_lt 254 n) refl
  where
    over : nat_lt 254 n ≡ true → 253 ≤ n
    over e = grind (arith, nat_tests)

    under : nat_lt 254 n ≡ false → n ≤ 254
    under e = grind (arith, nat_tests)

    by_test : (b : Bool) → nat_lt 254 n ≡ b → HasLength default (if b then Long else Byte) n
    by_test true e = (over e, le)
    by_test false e = under e

both_marks : (b : Bool) → AreMarks b true true
both_marks true = tt
both_marks false = (refl, refl)

pub new_fits : (payload : List ℕ) → length payload ≤ 65788 → AllByRecursion (λ b. b < 256) payload → (e : ExtConfig) → IsPart e (new_part payload)
new_fits payload few bytes e = record { size = new_length e.default_length (length payload) few; marks = both_marks (has_marks e (length payload)); bytes = bytes }

-- the same of a payload whose bytes a slice of them shows
pub few_fit : (payload slice : List ℕ) → slice ≡ payload → All (λ byte. byte < 256) slice → length payload ≤ 65788 → (e : ExtConfig) → IsPart e (new_part payload)
few_fit payload slice same small few = new_fits payload few (recursion_from_All (λ byte. byte < 256) payload (subst (λ (xs : List ℕ). All (λ byte. byte < 256) xs) same small))
