use Rattle.std.proofs.Common.{◌≡◌, ℕ, suc, ◌+◌, ◌-◌, ◌*◌, ◌/◌, ◌<◌, ◌≤◌, ◌^◌, refl, ap, sym, ◌∙◌, arith, ℤ, pos, negsuc, ◌+ℤ◌, ◌-ℤ◌, ◌*ℤ◌, to_z, of_z}
use Rattle.std.specs.Prelude.{FitsSigned}
use Rattle.std.specs.Int.{w16, w32}
use Rattle.std.specs.Int.Signed.{shr_z}
use Rattle.std.proofs.Common.{subst}
use Rattle.std.proofs.lemmas.Int.{ints, to_z-of_z, fits_signed_mul}
use Rattle.switch_player.specs.Blending.{floor_div, mixed}

-- adding a multiple of 128 moves the quotient
shifted : (v : ℤ) (k s : ℕ) → v +ℤ pos (k * 128) ≡ pos s → floor_div v 128 +ℤ pos k ≡ pos (s / 128)
shifted (pos v) k s e = omega (arith, ints)
shifted (negsuc v) k s e = omega (arith, ints)

-- the mixture, each sample moved up by 32768
moved : (a b : ℤ) (m n r t : ℕ) → a +ℤ pos 32768 ≡ pos m → b +ℤ pos 32768 ≡ pos n → r + t ≡ 128 → ((a *ℤ pos r) +ℤ (b *ℤ pos t)) +ℤ pos (32768 * 128) ≡ pos (m * r + n * t)
moved (pos a) (pos b) m n r t e f g =
    let p : m ≡ a + 32768 = omega (arith, ints) in
    let q : n ≡ b + 32768 = omega (arith, ints) in
    omega (arith, ints, ap (λ x. x * r) p, ap (λ x. x * t) q)
moved (pos a) (negsuc b) m n r t e f g =
    let p : m ≡ a + 32768 = omega (arith, ints) in
    let q : suc b + n ≡ 32768 = omega (arith, ints) in
    omega (arith, ints, ap (λ x. x * r) p, ap (λ x. x * t) q)
moved (negsuc a) (pos b) m n r t e f g =
    let p : suc a + m ≡ 32768 = omega (arith, ints) in
    let q : n ≡ b + 32768 = omega (arith, ints) in
    omega (arith, ints, ap (λ x. x * r) p, ap (λ x. x * t) q)
moved (negsuc a) (negsuc b) m n r t e f g =
    let p : suc a + m ≡ 32768 = omega (arith, ints) in
    let q : suc b + n ≡ 32768 = omega (arith, ints) in
    omega (arith, ints, ap (λ x. x * r) p, ap (λ x. x * t) q)

raised : (a : ℤ) → FitsSigned w16 a → (m : ℕ) × (a +ℤ pos 32768 ≡ pos m) × (m ≤ 65535)
raised (pos k) f = (k + 32768, refl, (let h : k < 2 ^ 15 = f.sfits in omega arith))
raised (negsuc k) f = let h : k < 2 ^ 15 = f.sfits in (32767 - k, omega (arith, ints), omega arith)

-- What is between two samples is a sample, and their mixture before the division is no large number.
pub record Between (time : ℕ) (a b : ℤ) : Type 0 where
  pub sum : FitsSigned w32 ((a *ℤ pos (128 - time)) +ℤ (b *ℤ pos time))
  pub sample : FitsSigned w16 (mixed time a b)

pub between : (time : ℕ) (a b : ℤ) → time < 128 → FitsSigned w16 a → FitsSigned w16 b → Between time a b
between time a b h fa fb =
    let p = raised a fa in
    let q = raised b fb in
    let r = 128 - time in
    let e = moved a b p.0 q.0 r time p.1 q.1 (omega arith) in
    let below : p.0 * r + q.0 * time ≤ 65535 * 128 = bounded p.0 q.0 r time p.2 q.2 (omega arith) in
    let v = (a *ℤ pos r) +ℤ (b *ℤ pos time) in
    let g = shifted v 32768 (p.0 * r + q.0 * time) e in
    record {
      sum = fits_sum v (p.0 * r + q.0 * time) e below;
      sample = fits_sample (mixed time a b) (p.0 * r + q.0 * time) g below;
    }
  where
    bounded : (m n r t : ℕ) → m ≤ 65535 → n ≤ 65535 → r + t ≡ 128 → m * r + n * t ≤ 65535 * 128
    bounded m n r t hm hn e = grind arith

    fits_sum : (v : ℤ) (s : ℕ) → v +ℤ pos (32768 * 128) ≡ pos s → s ≤ 65535 * 128 → FitsSigned w32 v
    fits_sum v s e h = omega (arith, ints)

    fits_sample : (z : ℤ) (s : ℕ) → z +ℤ pos 32768 ≡ pos (s / 128) → s ≤ 65535 * 128 → FitsSigned w16 z
    fits_sample z s e h = omega (arith, ints)

-- what the machine computes at 32 bits, with nothing lost
module _ (time : ℕ) (a b : ℤ) (h : time < 128) (fa : FitsSigned w16 a) (fb : FitsSigned w16 b) where
  old_part : to_z w32 (of_z w32 (to_z w32 (of_z w32 a) *ℤ to_z w32 (of_z w32 (pos 128 -ℤ to_z w32 time)))) ≡ a *ℤ pos (128 - time)
  old_part =
      let wide : FitsSigned w32 a = omega (arith, ints) in
      let t : to_z w32 time ≡ pos time = omega (arith, ints) in
      let rest : pos 128 -ℤ pos time ≡ pos (128 - time) = omega (arith, ints) in
      let small : FitsSigned w32 (pos (128 - time)) = omega (arith, ints) in
      let whole : FitsSigned w32 (a *ℤ pos (128 - time)) = fits_signed_mul w32 a (pos (128 - time)) 32768 128 (omega (arith, ints)) (omega arith) (omega arith) in
      rw (t, rest) (simp to_z-of_z)

  new_part : to_z w32 (of_z w32 (to_z w32 (of_z w32 b) *ℤ to_z w32 time)) ≡ b *ℤ pos time
  new_part =
      let wide : FitsSigned w32 b = omega (arith, ints) in
      let t : to_z w32 time ≡ pos time = omega (arith, ints) in
      let whole : FitsSigned w32 (b *ℤ pos time) = fits_signed_mul w32 b (pos time) 32768 128 (omega (arith, ints)) (omega arith) (omega arith) in
      rw t (simp to_z-of_z)

  abbrev sum_at : ℤ → ℤ → ℤ
  sum_at x y = to_z w32 (of_z w32 (to_z w32 (of_z w32 x) *ℤ to_z w32 (of_z w32 (pos 128 -ℤ to_z w32 time)))) +ℤ to_z w32 (of_z w32 (to_z w32 (of_z w32 y) *ℤ to_z w32 time))

  sum_is : (x y : ℤ) → x ≡ a → y ≡ b → sum_at x y ≡ (a *ℤ pos (128 - time)) +ℤ (b *ℤ pos time)
  sum_is x y e f = ap (λ z. sum_at z y) e ∙ (ap (sum_at a) f ∙ (ap (λ z. z +ℤ to_z w32 (of_z w32 (to_z w32 (of_z w32 b) *ℤ to_z w32 time))) old_part ∙ ap (λ z. (a *ℤ pos (128 - time)) +ℤ z) new_part))

  pub sum_fits : (x y : ℤ) → x ≡ a → y ≡ b → FitsSigned w32 (sum_at x y)
  sum_fits x y e f = let P : ℤ → Type 0 = FitsSigned w32 in subst P (sym (sum_is x y e f)) (between time a b h fa fb).sum

  pub shift_is : (x y : ℤ) → x ≡ a → y ≡ b → shr_z (to_z w32 (of_z w32 (sum_at x y))) 128 ≡ mixed time a b
  shift_is x y e f =
      let fits = sum_fits x y e f in
      ap (λ z. shr_z z 128) (to_z-of_z w32 (sum_at x y) fits ∙ sum_is x y e f) ∙ same ((a *ℤ pos (128 - time)) +ℤ (b *ℤ pos time))
    where
      same : (z : ℤ) → shr_z z 128 ≡ floor_div z 128
      same (pos k) = refl
      same (negsuc k) = refl

  pub cast_fits : (x y : ℤ) → x ≡ a → y ≡ b → FitsSigned w16 (to_z w32 (of_z w32 (shr_z (to_z w32 (of_z w32 (sum_at x y))) 128)))
  cast_fits x y e f =
      let small : FitsSigned w16 (mixed time a b) = (between time a b h fa fb).sample in
      let wide : FitsSigned w32 (mixed time a b) = omega (arith, ints) in
      let P : ℤ → Type 0 = λ z. FitsSigned w16 (to_z w32 (of_z w32 z)) in
      subst P (sym (shift_is x y e f)) (rw (to_z-of_z w32 (mixed time a b) wide) small)

  pub result_is : (x y : ℤ) → x ≡ a → y ≡ b → to_z w16 (of_z w16 (to_z w32 (of_z w32 (shr_z (to_z w32 (of_z w32 (sum_at x y))) 128)))) ≡ mixed time a b
  result_is x y e f =
      let small : FitsSigned w16 (mixed time a b) = (between time a b h fa fb).sample in
      let wide : FitsSigned w32 (mixed time a b) = omega (arith, ints) in
      ap (λ z. to_z w16 (of_z w16 (to_z w32 (of_z w32 z)))) (shift_is x y e f) ∙ (ap (λ z. to_z w16 (of_z w16 z)) (to_z-of_z w32 (mixed time a b) wide) ∙ to_z-of_z w16 (mixed time a b) small)
