-- What shifts and masks of a word do to its bits.
use Rattle.std.proofs.Common.{◌≡◌, ℕ, zero, suc, ◌+◌, ◌*◌, ◌/◌, ◌%◌, ◌^◌, ◌<◌, Bool, true, false, eqb, List, [], ◌∷◌, ◌++◌, refl, sym, ap, ◌∙◌, arith, add-one}
use Rattle.std.specs.Int.RustNames.{bit_or}
use Rattle.std.proofs.lemmas.Nat.{pow_pos, shr_split, or_shifted, shr_high, mod_below}
use Rattle.std.proofs.lemmas.List.{replicate_more}
use mir.Val.{bool_byte}
use Rattle.layout.specs.Text.{num, value_after, is_odd, digit}
use Rattle.bit_core.specs.Words.{zeros}
use Rattle.layout.proofs.TextLemmas.{value_after-num, num-split, num-rem, bool_byte-is}

pub num_zeros : (n : ℕ) → num n 0 ≡ zeros n
unfolding num
num_zeros zero = refl
num_zeros (suc n) = rw (num_zeros n) (replicate_more n false ∙ rw add-one refl)

odd_low : (a p b : ℕ) → (a * (p * 2) + b) % 2 ≡ b % 2
odd_low a p b = omega arith

half_low : (a p b : ℕ) → (a * (p * 2) + b) / 2 ≡ a * p + b / 2
half_low a p b = omega arith

-- the lowest n bits do not see what is above them
pub num_low : (n a b : ℕ) → num n (a * 2 ^ n + b) ≡ num n b
unfolding num
num_low zero a b = refl
num_low (suc n) a b =
    let p : 2 ^ suc n ≡ 2 ^ n * 2 = omega arith in
    rw (p, half_low a (2 ^ n) b, num_low n a (b / 2)) (ap (λ (m : ℕ). num n (b / 2) ++ eqb m 1 ∷ []) (odd_low a (2 ^ n) b))

-- two numbers, one behind the other
pub num_cat : (p q a b : ℕ) → b < 2 ^ q → num (p + q) (a * 2 ^ q + b) ≡ num p a ++ num q b
num_cat p q a b lt = num-split p q (a * 2 ^ q + b) ∙ rw (shr_high a q b lt, num_low q a b) refl

pub num_same : (n a b : ℕ) → a < 2 ^ n → b < 2 ^ n → num n a ≡ num n b → a ≡ b
num_same n a b la lb e =
    let va = value_after-num 0 n a la in
    let vb = value_after-num 0 n b lb in
    let ve = ap (λ (t : List Bool). value_after 0 t) e in
    omega (arith, va, vb, ve)

-- `v << q`
pub num_shl : (p q v : ℕ) → num (p + q) (v * 2 ^ q % 2 ^ (p + q)) ≡ num p v ++ zeros q
num_shl p q v =
    let z : v * 2 ^ q ≡ v * 2 ^ q + 0 = omega arith in
    num-rem (p + q) (v * 2 ^ q) ∙ ap (λ (m : ℕ). num (p + q) m) z ∙ num_cat p q v 0 (pow_pos q) ∙ rw num_zeros refl

-- a number whose lowest q bits are 0
pub low_zero : (q l : ℕ) → num q l ≡ zeros q → l / 2 ^ q * 2 ^ q ≡ l
low_zero q l e =
    let z : l % 2 ^ q ≡ 0 = num_same q (l % 2 ^ q) 0 (mod_below l (2 ^ q) (pow_pos q)) (pow_pos q) (num-rem q l ∙ e ∙ sym (num_zeros q)) in
    omega (arith, shr_split l q, z)

-- `l | x`, where x has q bits and the lowest q bits of l are 0
pub num_or : (p q l x : ℕ) → x < 2 ^ q → num q l ≡ zeros q → num (p + q) (bit_or l x) ≡ num p (l / 2 ^ q) ++ num q x
num_or p q l x lt e =
    ap (λ (m : ℕ). num (p + q) (bit_or m x)) (sym (low_zero q l e))
    ∙ ap (λ (m : ℕ). num (p + q) m) (or_shifted (l / 2 ^ q) q x lt)
    ∙ num_cat p q (l / 2 ^ q) x lt

flag_odd : (b : Bool) → is_odd (digit b) ≡ b
flag_odd true = refl
flag_odd false = refl

-- a truth value as a number of one bit
pub num_flag : (b : Bool) (d : ℕ) → d ≡ bool_byte b → num 1 d ≡ b ∷ []
unfolding num
num_flag b d e = rw (e, bool_byte-is b, flag_odd b) refl
