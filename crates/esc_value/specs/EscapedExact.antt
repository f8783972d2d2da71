-- Numbers that escape are read exactly.
use Rattle.std.proofs.Common.{◌≡◌, ℕ, zero, suc, ◌+◌, ◌-◌, ◌/◌, ◌%◌, ◌^◌, ◌<◌, ◌≤◌, Bool, true, false, eqb, List, ◌++◌, replicate, Option, Some, None, refl, sym, ap, ◌∙◌, append_assoc, arith, inl, inr}
use Rattle.std.proofs.lemmas.Bool.{cases_lt, eq-eqb, eqb-true, le-ltb, lt-ltb, eqb-false, ne_eqb}
use Rattle.std.proofs.lemmas.Nat.{pow_pos}
use Rattle.std.specs.Prelude.{◌⊎◌}
use Rattle.std.proofs.lemmas.List.{append-nil, replicate_more, replicate-append-replicate}
use Rattle.layout.specs.Text.{num}
use Rattle.layout.specs.Layout.{where_set, whole}
use Rattle.layout.specs.Fields.{number_field}
use Rattle.layout.specs.Exact.{IsExact, IsOpen}
use Rattle.layout.proofs.Layouts.{both-exact, shaped-exact, wrapped-exact, where_set-exact, whole-exact, both-open, shaped-open, where_set-open, field-open, same-exact}
use Rattle.bit_core.specs.declared.faults.Short.{Short}
use Rattle.bit_core.specs.Plain.{bits, short_at}
use Rattle.bit_core.proofs.PlainFacts.{bits-exact}
use Rattle.esc_value.specs.Escaped.{largest, ones, escaped_text, parts, added, second, third, fields, summed, escaped, escaped_value}

pub num_ones : (n : ℕ) → num n (2 ^ n - 1) ≡ replicate n true
unfolding num
num_ones zero = refl
num_ones (suc n) =
    let one = pow_pos n in
    let half : (2 ^ suc n - 1) / 2 ≡ 2 ^ n - 1 = omega arith in
    let odd : (2 ^ suc n - 1) % 2 ≡ 1 = omega arith in
    rw (half, odd, num_ones n) (replicate_more n true ∙ ap (λ (k : ℕ). replicate k true) (let k : n + 1 ≡ suc n = omega arith in k))

-- ---- the three cases

parts_first : (a b v : ℕ) → v < 2 ^ a - 1 → parts a b v ≡ (v, None)
parts_first a b v lt = rw (lt-ltb v (2 ^ a - 1) lt) refl

parts_second : (a b v : ℕ) → 2 ^ a - 1 ≤ v → v < 2 ^ a + 2 ^ b - 2 → parts a b v ≡ (2 ^ a - 1, Some (v - (2 ^ a - 1), None))
parts_second a b v le lt = rw (le-ltb v (2 ^ a - 1) le, lt-ltb v (2 ^ a + 2 ^ b - 2) lt) refl

parts_third : (a b v : ℕ) → 2 ^ a - 1 ≤ v → 2 ^ a + 2 ^ b - 2 ≤ v → parts a b v ≡ (2 ^ a - 1, Some (2 ^ b - 1, Some (v - (2 ^ a + 2 ^ b - 2))))
parts_third a b v le more = rw (le-ltb v (2 ^ a - 1) le, le-ltb v (2 ^ a + 2 ^ b - 2) more) refl

esc_first : (a b c v : ℕ) → v < 2 ^ a - 1 → escaped_text a b c v ≡ num a v
esc_first a b c v lt = rw (lt-ltb v (2 ^ a - 1) lt) refl

pub esc_second : (a b c v : ℕ) → 2 ^ a - 1 ≤ v → v < 2 ^ a + 2 ^ b - 2 → escaped_text a b c v ≡ ones a ++ num b (v - (2 ^ a - 1))
esc_second a b c v le lt = rw (le-ltb v (2 ^ a - 1) le, lt-ltb v (2 ^ a + 2 ^ b - 2) lt) refl

pub esc_third : (a b c v : ℕ) → 2 ^ a - 1 ≤ v → 2 ^ a + 2 ^ b - 2 ≤ v → escaped_text a b c v ≡ ones (a + b) ++ num c (v - (2 ^ a + 2 ^ b - 2))
esc_third a b c v le more = rw (le-ltb v (2 ^ a - 1) le, le-ltb v (2 ^ a + 2 ^ b - 2) more) refl

-- a test that holds since there is a value, and what holds of that
from_some : (b : Bool) (P : Type 0) → (true ≡ b) × P → (b ≡ true) × P
from_some b P h = (sym h.0, h.1)

-- what is added up again
back_none : (a b c x : ℕ) → (fields a b c).Fits (x, None) → parts a b (x + 0) ≡ (x, None)
back_none a b c x fits =
    let other = eqb-false x (2 ^ a - 1) (sym fits.1.0) in
    let lt : x < 2 ^ a = fits.0.0 in
    let k : x + 0 ≡ x = omega arith in
    rw k (parts_first a b x (omega arith))

back_some : (a b c x y : ℕ) (o : Option ℕ) → (fields a b c).Fits (x, Some (y, o)) → parts a b (x + (y + third o)) ≡ (x, Some (y, o))
back_some a b c x y None fits =
    let s = from_some _ _ fits.1 in
    let x-is = eqb-true x (2 ^ a - 1) s.0 in
    let other = eqb-false y (2 ^ b - 1) (sym s.1.1.0) in
    let lt : y < 2 ^ b = s.1.0.0 in
    let one = pow_pos a in
    let rest : x + (y + 0) - (2 ^ a - 1) ≡ y = omega arith in
    parts_second a b (x + (y + 0)) (omega arith) (omega arith) ∙ rw (rest, ← x-is) refl
back_some a b c x y (Some z) fits =
    let s = from_some _ _ fits.1 in
    let t = from_some _ _ s.1.1 in
    let x-is = eqb-true x (2 ^ a - 1) s.0 in
    let y-is = eqb-true y (2 ^ b - 1) t.0 in
    let one = pow_pos a in
    let two = pow_pos b in
    let rest : x + (y + z) - (2 ^ a + 2 ^ b - 2) ≡ z = omega arith in
    parts_third a b (x + (y + z)) (omega arith) (omega arith) ∙ rw (rest, ← x-is, ← y-is) refl

back_at : (a b c x : ℕ) (o : Option (ℕ × Option ℕ)) → (fields a b c).Fits (x, o) → parts a b (x + second o) ≡ (x, o)
back_at a b c x None fits = back_none a b c x fits
back_at a b c x (Some y) fits = back_some a b c x y.0 y.1 fits

back : (a b c : ℕ) (x : ℕ × Option (ℕ × Option ℕ)) → (fields a b c).Fits x → parts a b (added x) ≡ x
back a b c x fits = back_at a b c x.0 x.1 fits

-- the three cases of a number
three : (a b v : ℕ) → (v < 2 ^ a - 1) ⊎ (((2 ^ a - 1 ≤ v) × (v < 2 ^ a + 2 ^ b - 2)) ⊎ ((2 ^ a - 1 ≤ v) × (2 ^ a + 2 ^ b - 2 ≤ v)))
three a b v =
    let one = pow_pos a in
    let two = pow_pos b in
    elim (cases_lt v (2 ^ a - 1)) [
      | inl lt ↦ inl lt
      | inr le ↦ elim (cases_lt v (2 ^ a + 2 ^ b - 2)) [ inl lt ↦ inr (inl (le, lt)) | inr more ↦ inr (inr (le, more)) ]
    ]

there : (a b v : ℕ) → added (parts a b v) ≡ v
there a b v =
    let one = pow_pos a in
    let two = pow_pos b in
    elim (three a b v) [
      | inl lt ↦ rw (parts_first a b v lt) (omega arith)
      | inr more ↦ elim more [
        | inl h ↦ rw (parts_second a b v h.0 h.1) (omega arith)
        | inr h ↦ rw (parts_third a b v h.0 h.1) (omega arith)
      ]
    ]

eqb_same : (n : ℕ) → eqb n n ≡ true
eqb_same n = eq-eqb n n refl

fits_from : (a b c v : ℕ) → v ≤ largest a b c → (fields a b c).Fits (parts a b v) × (escaped_text a b c v ≡ (fields a b c).spelling (parts a b v))
fits_from a b c v le =
    let one = pow_pos a in
    let two = pow_pos b in
    let three_pow = pow_pos c in
    elim (three a b v) [
      | inl lt ↦
          let other : eqb v (2 ^ a - 1) ≡ false = ne_eqb v (2 ^ a - 1) (omega arith) in
          rw (parts_first a b v lt, other) (((omega arith, refl), (refl, tt)), esc_first a b c v lt ∙ sym (append-nil (num a v)))
      | inr more ↦ elim more [
        | inl h ↦
            let y = v - (2 ^ a - 1) in
            let other : eqb y (2 ^ b - 1) ≡ false = ne_eqb y (2 ^ b - 1) (omega arith) in
            rw (parts_second a b v h.0 h.1, eqb_same (2 ^ a - 1), other) (((omega arith, refl), (refl, ((omega arith, refl), (refl, tt)))), esc_second a b c v h.0 h.1 ∙ rw (num_ones, append-nil) refl)
        | inr h ↦
            rw (parts_third a b v h.0 h.1, eqb_same (2 ^ a - 1), eqb_same (2 ^ b - 1)) (((omega arith, refl), (refl, ((omega arith, refl), (refl, (omega arith, refl))))), esc_third a b c v h.0 h.1 ∙ rw (num_ones, num_ones) (ap (λ (t : List Bool). t ++ num c (v - (2 ^ a + 2 ^ b - 2))) (sym (replicate-append-replicate a b true)) ∙ append_assoc (ones a) (ones b) (num c (v - (2 ^ a + 2 ^ b - 2)))))
      ]
    ]

third_below : (b c y : ℕ) (o : Option ℕ) → (where_set (eqb y (2 ^ b - 1)) (bits c)).Fits o → third o ≤ 2 ^ c - 1
third_below b c y None fits = omega arith
third_below b c y (Some z) fits = let s = from_some _ _ fits in let lt : z < 2 ^ c = s.1.0 in omega arith

below_at : (a b c x : ℕ) (o : Option (ℕ × Option ℕ)) → (fields a b c).Fits (x, o) → x + second o ≤ largest a b c
below_at a b c x None fits = let lt : x < 2 ^ a = fits.0.0 in omega arith
below_at a b c x (Some y) fits =
    let s = from_some _ _ fits.1 in
    let lt : x < 2 ^ a = fits.0.0 in
    let more : y.0 < 2 ^ b = s.1.0.0 in
    let last : third y.1 ≤ 2 ^ c - 1 = third_below b c y.0 y.1 s.1.1 in
    omega arith

fits_to : (a b c : ℕ) (x : ℕ × Option (ℕ × Option ℕ)) → (fields a b c).Fits x → added x ≤ largest a b c
fits_to a b c x fits = below_at a b c x.0 x.1 fits

pub summed-exact : (a b c : ℕ) → IsExact (summed a b c)
summed-exact a b c = shaped-exact _ _ _ (both-exact _ _ (bits-exact a) (λ x. where_set-exact _ _ (both-exact _ _ (bits-exact b) (λ y. where_set-exact _ _ (bits-exact c))))) (back a b c) (λ v h. there a b v)

pub bits-open : (n : ℕ) → IsOpen (bits n)
bits-open n = field-open short_at (number_field n) 0 (pow_pos n)

pub summed-open : (a b c : ℕ) → IsOpen (summed a b c)
summed-open a b c = shaped-open _ _ _ (both-open _ _ (bits-open a) (λ x. where_set-open _ _ (both-open _ _ (bits-open b) (λ y. where_set-open _ _ (bits-open c))))) (back a b c)

from : (a b c v : ℕ) → (summed a b c).Fits v → (v ≤ largest a b c) × (escaped_text a b c v ≡ (summed a b c).spelling v)
from a b c v fits =
    let le : v ≤ largest a b c = rw there at (fits_to a b c (parts a b v) fits) in
    (le, (fits_from a b c v le).1)

pub escaped_exact : (a b c : ℕ) → IsExact (escaped a b c)
escaped_exact a b c = same-exact (whole short_at (summed a b c)) (escaped a b c) (whole-exact short_at (summed a b c) (summed-exact a b c) (summed-open a b c))
    (λ v le. fits_from a b c v le)
    (λ v fits. from a b c v fits)
    (λ r. refl)
    (λ at f t bad. let m = fits_from a b c bad.1.0 bad.1.1 in (bad.0, (bad.1.0, m.0, (bad.1.2.0, bad.1.2.1, sym m.1 ∙ bad.1.2.2))))
    (λ at f t bad. let m = from a b c bad.1.0 bad.1.1 in (bad.0, (bad.1.0, m.0, (bad.1.2.0, bad.1.2.1, m.1 ∙ bad.1.2.2))))

pub escaped_value-exact : {F : Type 0} (wrap : Short → F) (a b c : ℕ) → IsExact (escaped_value wrap a b c)
escaped_value-exact wrap a b c = wrapped-exact wrap _ (escaped_exact a b c)
