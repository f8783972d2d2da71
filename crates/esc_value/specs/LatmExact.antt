-- Numbers with the count of their bytes are read exactly.
use Rattle.std.proofs.Common.{◌≡◌, ℕ, zero, suc, ◌+◌, ◌-◌, ◌*◌, ◌^◌, ◌<◌, ◌≤◌, ◌++◌, refl, sym, ap, subst, ◌∙◌, arith}
use Rattle.std.proofs.lemmas.Nat.{pow_pos}
use Rattle.layout.specs.Text.{num}
use Rattle.layout.specs.Layout.{Layout, both, shaped, whole}
use Rattle.layout.specs.Fields.{number_field}
use Rattle.layout.specs.Exact.{IsExact, IsOpen}
use Rattle.layout.proofs.Layouts.{both-exact, shaped-exact, whole-exact, both-open, shaped-open, field-open, same-exact}
use Rattle.bit_core.specs.declared.faults.Short.{Short}
use Rattle.bit_core.specs.Plain.{bits, short_at}
use Rattle.bit_core.proofs.PlainFacts.{bits-exact}
use Rattle.esc_value.specs.declared.latm_value.LatmValue.{LatmValue}
use Rattle.esc_value.specs.LatmValue.{IsWellFormed, latm_text, latm_value}

-- two bits that stand for a number of bytes; no bits stand for none
abbrev code : ℕ → ℕ
code zero = 4
code (suc n) = n

abbrev pairs : Layout (ℕ × ℕ) Short
pairs = both (bits 2) (λ more. bits (8 * (more + 1)))

abbrev parts : LatmValue → ℕ × ℕ
parts v = (code v.bytes, v.value)

abbrev made : ℕ × ℕ → LatmValue
made (more, value) = record { bytes = more + 1; value = value }

pairs-exact : IsExact pairs
pairs-exact = both-exact _ _ (bits-exact 2) (λ more. bits-exact (8 * (more + 1)))

bits-open : (n : ℕ) → IsOpen (bits n)
bits-open n = field-open short_at (number_field n) 0 (pow_pos n)

pairs-open : IsOpen pairs
pairs-open = both-open _ _ (bits-open 2) (λ more. bits-open (8 * (more + 1)))

back : (x : ℕ × ℕ) → pairs.Fits x → parts (made x) ≡ x
back x fits = ap (λ (n : ℕ). let p : ℕ × ℕ = (code n, x.1) in p) (let k : x.0 + 1 ≡ suc x.0 = omega arith in k)

there_at : (bytes value : ℕ) → pairs.Fits (code bytes, value) → made (code bytes, value) ≡ record { bytes = bytes; value = value }
there_at zero value fits = absurd (let lt : 4 < 2 ^ 2 = fits.0.0 in omega arith)
there_at (suc n) value fits = ap (λ (n : ℕ). let v : LatmValue = record { bytes = n; value = value } in v) (let k : n + 1 ≡ suc n = omega arith in k)

there : (v : LatmValue) → pairs.Fits (parts v) → made (parts v) ≡ v
there v fits = there_at v.bytes v.value fits

-- as many values as the bytes have
pub power : (n : ℕ) → 2 ^ (8 * n) ≡ 256 ^ n
power zero = refl
power (suc n) =
    let k : 8 * suc n ≡ suc (suc (suc (suc (suc (suc (suc (suc (8 * n)))))))) = omega arith in
    let so_far = power n in
    rw k (omega arith)

one_more : (n : ℕ) → n + 1 ≡ suc n
one_more n = omega arith

fits_from_at : (bytes value : ℕ) → 1 ≤ bytes → bytes ≤ 4 → value < 256 ^ bytes
    → pairs.Fits (code bytes, value) × (num 2 (bytes - 1) ++ num (8 * bytes) value ≡ pairs.spelling (code bytes, value))
fits_from_at zero value some four held = absurd (omega arith)
fits_from_at (suc n) value some four held =
    let less : suc n - 1 ≡ n = omega arith in
    let below : value < 2 ^ (8 * suc n) = rw power held in
    rw (one_more, less) (((omega arith, refl), (below, refl)), refl)

fits_from : (v : LatmValue) → IsWellFormed v → pairs.Fits (parts v) × (latm_text v ≡ pairs.spelling (parts v))
fits_from v fits = fits_from_at v.bytes v.value fits.some fits.four fits.held

well_formed_at : (bytes value : ℕ) → pairs.Fits (code bytes, value) → (1 ≤ bytes) × (bytes ≤ 4) × (value < 256 ^ bytes)
well_formed_at zero value fits = absurd (let lt : 4 < 2 ^ 2 = fits.0.0 in omega arith)
well_formed_at (suc n) value fits =
    let lt : n < 2 ^ 2 = fits.0.0 in
    let below : value < 2 ^ (8 * (n + 1)) = fits.1.0 in
    let held : value < 256 ^ (n + 1) = rw (← power) below in
    (omega arith, omega arith, subst (λ (k : ℕ). value < 256 ^ k) (one_more n) held)

from : (v : LatmValue) → pairs.Fits (parts v) → IsWellFormed v × (latm_text v ≡ pairs.spelling (parts v))
from v fits =
    let w = well_formed_at v.bytes v.value fits in
    let is : IsWellFormed v = record { some = w.0; four = w.1; held = w.2 } in
    (is, (fits_from v is).1)

-- the fields with the parts in which no bytes have no bits
abbrev fields : Layout LatmValue Short
fields = shaped parts made pairs

pub latm_value_exact : IsExact latm_value
latm_value_exact = same-exact (whole short_at fields) latm_value (whole-exact short_at fields (shaped-exact parts made pairs pairs-exact back there) (shaped-open parts made pairs pairs-open back))
    (λ v fits. fits_from v fits)
    (λ v fits. from v fits)
    (λ r. refl)
    (λ at f t bad. let m = fits_from bad.1.0 bad.1.1 in (bad.0, (bad.1.0, m.0, (bad.1.2.0, bad.1.2.1, sym m.1 ∙ bad.1.2.2))))
    (λ at f t bad. let m = from bad.1.0 bad.1.1 in (bad.0, (bad.1.0, m.0, (bad.1.2.0, bad.1.2.1, m.1 ∙ bad.1.2.2))))
