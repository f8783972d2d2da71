-- What numbers and bytes spell, bit by bit.
use Rattle.std.proofs.Common.{◌≡◌, ℕ, zero, suc, ◌+◌, ◌-◌, ◌*◌, ◌/◌, ◌%◌, ◌^◌, ◌<◌, ◌≤◌, Bool, true, false, eqb, List, [], ◌∷◌, ◌++◌, length, get_or, take, drop, refl, sym, ap, ◌∙◌, append_assoc, arith, inl, inr, add-one}
use Rattle.std.specs.Int.{bit_at}
use Rattle.std.proofs.lemmas.Bool.{cases_lt}
use Rattle.std.proofs.lemmas.Nat.Bits.{bit_at-suc, bit_at_lowest}
use Rattle.std.proofs.lemmas.List.{length-append, get_or_append_left, get_or_at, get_or-append-add, take_more, length-drop, length-take, get_or-drop, take-take, drop-drop, drop-take, take-append-drop, append-nil, length-take-le, drop_at, take_at}
use Rattle.std.proofs.Math.Nat.{div-div-eq-div-mul}
use Rattle.std.proofs.lemmas.Nat.{mod-pow-add}
use mir.Val.{bool_byte}
use Rattle.layout.specs.Text.{is_odd, digit, num, value_after, bits_of}

pub length-num : (n v : ℕ) → length (num n v) ≡ n
unfolding num
length-num zero v = refl
length-num (suc n) v = omega (arith, length-append (num n (v / 2)) (is_odd v ∷ []), length-num n (v / 2))

pub is_odd_push : (v : ℕ) (b : Bool) → is_odd (2 * v + digit b) ≡ b
is_odd_push v true = let e : (2 * v + 1) % 2 ≡ 1 = omega arith in rw e refl
is_odd_push v false = let e : (2 * v + 0) % 2 ≡ 0 = omega arith in rw e refl

half_push : (v : ℕ) (b : Bool) → (2 * v + digit b) / 2 ≡ v
half_push v true = omega arith
half_push v false = omega arith

-- one more bit
pub num_push : (n v : ℕ) (b : Bool) → num (suc n) (2 * v + digit b) ≡ num n v ++ b ∷ []
unfolding num
num_push n v b = rw (half_push v b, is_odd_push v b) refl

-- a bit of a number
pub get_or-num : (n v i : ℕ) → i < n → get_or (num n v) i false ≡ eqb (bit_at v (n - 1 - i)) 1
unfolding num
get_or-num zero v i lt = absurd (omega arith)
get_or-num (suc n) v i lt =
    elim (cases_lt i n) [
      | inl below ↦
          let here : i < length (num n (v / 2)) = omega (arith, length-num n (v / 2)) in
          let k : suc n - 1 - i ≡ suc (n - 1 - i) = omega arith in
          get_or_append_left (num n (v / 2)) (is_odd v ∷ []) false i here ∙ get_or-num n (v / 2) i below ∙ rw (k, bit_at-suc) refl
      | inr above ↦
          let k : suc n - 1 - i ≡ 0 = omega arith in
          let e : length (num n (v / 2)) ≡ i = omega (arith, length-num n (v / 2)) in
          get_or_at (num n (v / 2)) (is_odd v) [] false i e ∙ rw (k, bit_at_lowest) refl
    ]

pub length-bits_of : (bytes : List ℕ) → length (bits_of bytes) ≡ 8 * length bytes
unfolding bits_of
length-bits_of [] = refl
length-bits_of (b ∷ bytes) = omega (arith, length-append (num 8 b) (bits_of bytes), length-num 8 b, length-bits_of bytes)

pub get_or-bits_of : (bytes : List ℕ) (at : ℕ) → at < 8 * length bytes → get_or (bits_of bytes) at false ≡ eqb (bit_at (get_or bytes (at / 8) 0) (7 - at % 8)) 1
unfolding bits_of
get_or-bits_of [] at lt = absurd (omega arith)
get_or-bits_of (b ∷ bytes) at lt =
    elim (cases_lt at 8) [
      | inl below ↦
          let here : at < length (num 8 b) = omega (arith, length-num 8 b) in
          let k : at / 8 ≡ 0 = omega arith in
          let m : at % 8 ≡ at = omega arith in
          get_or_append_left (num 8 b) (bits_of bytes) false at here ∙ get_or-num 8 b at below ∙ rw (k, m) refl
      | inr above ↦
          let there : length (num 8 b) + (at - 8) ≡ at = omega (arith, length-num 8 b) in
          let k : at / 8 ≡ suc ((at - 8) / 8) = omega arith in
          let m : at % 8 ≡ (at - 8) % 8 = omega arith in
          let inside : at - 8 < 8 * length bytes = omega arith in
          ap (λ (i : ℕ). get_or (num 8 b ++ bits_of bytes) i false) (sym there) ∙ get_or-append-add (num 8 b) (bits_of bytes) (at - 8) false ∙ get_or-bits_of bytes (at - 8) inside ∙ rw (k, m) refl
    ]

-- one more bit of the bits from a place on
pub take_more_from : (bits : List Bool) (at n : ℕ) → at + n < length bits → take (n + 1) (drop at bits) ≡ take n (drop at bits) ++ get_or bits (at + n) false ∷ []
take_more_from bits at n lt =
    let inside : n < length (drop at bits) = omega (arith, length-drop at bits) in
    take_more (drop at bits) n false inside ∙ rw get_or-drop refl

value_after-append : (v : ℕ) (xs ys : List Bool) → value_after v (xs ++ ys) ≡ value_after (value_after v xs) ys
unfolding value_after
value_after-append v [] ys = refl
value_after-append v (x ∷ xs) ys = value_after-append (2 * v + digit x) xs ys

-- bits spell what they are read as
pub num-value_after : (n v : ℕ) (bits : List Bool) → num (n + length bits) (value_after v bits) ≡ num n v ++ bits
unfolding value_after
num-value_after n v [] = let k : n + 0 ≡ n = omega arith in rw k (sym (append-nil (num n v)))
num-value_after n v (b ∷ bits) =
    let k : n + suc (length bits) ≡ suc n + length bits = omega arith in
    rw k (num-value_after (suc n) (2 * v + digit b) bits ∙ rw num_push (append_assoc (num n v) (b ∷ []) bits))

-- a number below two, as a bit and back
digit_bit : (m : ℕ) → m < 2 → digit (eqb m 1) ≡ m
digit_bit zero lt = refl
digit_bit (suc zero) lt = refl
digit_bit (suc (suc m)) lt = absurd (omega arith)

digit_is_odd : (v : ℕ) → 2 * (v / 2) + digit (is_odd v) ≡ v
digit_is_odd v = let lt : v % 2 < 2 = omega arith in rw (digit_bit (v % 2) lt) (omega arith)

pub value_after-num : (w n v : ℕ) → v < 2 ^ n → value_after w (num n v) ≡ w * 2 ^ n + v
unfolding num value_after
value_after-num w zero v lt = omega arith
value_after-num w (suc n) v lt =
    let p : 2 ^ suc n ≡ 2 ^ n * 2 = omega arith in
    let half : v / 2 < 2 ^ n = omega arith in
    value_after-append w (num n (v / 2)) (is_odd v ∷ []) ∙ rw (value_after-num w n (v / 2) half, p) (omega (arith, digit_is_odd v))

below : (v p : ℕ) (b : Bool) (x : ℕ) → x < (2 * v + digit b + 1) * p → x < (v + 1) * (p * 2)
below v p true x lt = omega arith
below v p false x lt = omega arith

pub value_after-lt : (bits : List Bool) (v : ℕ) → value_after v bits < (v + 1) * 2 ^ length bits
unfolding value_after
value_after-lt [] v = omega arith
value_after-lt (b ∷ bits) v =
    let p : 2 ^ suc (length bits) ≡ 2 ^ length bits * 2 = omega arith in
    rw p (below v (2 ^ length bits) b (value_after (2 * v + digit b) bits) (value_after-lt bits (2 * v + digit b)))

digit-lt : (b : Bool) → digit b < 2
digit-lt true = omega arith
digit-lt false = omega arith

pub bool_byte-is : (b : Bool) → bool_byte b ≡ digit b
bool_byte-is true = refl
bool_byte-is false = refl

-- a front of what is left does not reach the end
pub left_parts : (bits : List Bool) (at n e : ℕ) → at + n ≤ e → drop at (take e bits) ≡ take n (drop at bits) ++ drop (at + n) (take e bits)
left_parts bits at n e le =
    let k : at + (e - at) ≡ e = omega arith in
    let inside : n ≤ e - at = omega arith in
    let front : drop at (take e bits) ≡ take (e - at) (drop at bits) = ap (λ (m : ℕ). drop at (take m bits)) (sym k) ∙ drop-take at (e - at) bits in
    let same : take n (drop at (take e bits)) ≡ take n (drop at bits) = ap (λ (l : List Bool). take n l) front ∙ take-take n (e - at) (drop at bits) inside in
    sym (take-append-drop n (drop at (take e bits))) ∙ rw (same, drop-drop) refl

-- one more bit of a number that is read bit by bit
pub next_number : (bytes : List ℕ) (at i v : ℕ) (b : Bool) (d : ℕ) → v < 2 ^ i → num i v ≡ take i (drop at (bits_of bytes)) → at + i < 8 * length bytes → b ≡ get_or (bits_of bytes) (at + i) false → d ≡ bool_byte b
    → (v * 2 + d < 2 ^ (i + 1)) × (num (i + 1) (v * 2 + d) ≡ take (i + 1) (drop at (bits_of bytes)))
next_number bytes at i v b d lt so_far inside here byte =
    let d-is : d ≡ digit b = byte ∙ bool_byte-is b in
    let long : at + i < length (bits_of bytes) = omega (arith, length-bits_of bytes) in
    let v-is : v * 2 + d ≡ 2 * v + digit b = omega arith in
    let p : 2 ^ (i + 1) ≡ 2 ^ i * 2 = rw add-one (omega arith) in
    let d-lt : digit b < 2 = digit-lt b in
    (rw (v-is, p) (omega arith), rw (v-is, add-one, num_push, so_far) (ap (λ (x : Bool). take i (drop at (bits_of bytes)) ++ x ∷ []) here ∙ sym (take_more_from (bits_of bytes) at i long) ∙ rw add-one refl))

pub length-left : (bytes : List ℕ) (at e : ℕ) → e ≤ 8 * length bytes → length (drop at (take e (bits_of bytes))) ≡ e - at
length-left bytes at e le = omega (arith, length-drop at (take e (bits_of bytes)), length-take e (bits_of bytes), length-bits_of bytes)

-- ---- numbers and bytes in parts

halves : (v b : ℕ) → v / 2 ^ suc b ≡ v / 2 / 2 ^ b
halves v b = let p : 2 ^ suc b ≡ 2 * 2 ^ b = omega arith in rw p (sym (div-div-eq-div-mul v 2 (2 ^ b)))

-- the upper bits of a number, and the others
pub num-split : (a b v : ℕ) → num (a + b) v ≡ num a (v / 2 ^ b) ++ num b v
unfolding num
num-split a zero v =
    let k : a + 0 ≡ a = omega arith in
    let one : v / 1 ≡ v = omega arith in
    rw (k, one) (sym (append-nil (num a v)))
num-split a (suc b) v =
    let k : a + suc b ≡ suc (a + b) = omega arith in
    rw (k, num-split a b (v / 2), halves v b) (append_assoc (num a (v / 2 / 2 ^ b)) (num b (v / 2)) (is_odd v ∷ []))

-- bits above the lowest n don't count
pub num-rem : (n v : ℕ) → num n (v % 2 ^ n) ≡ num n v
unfolding num
num-rem zero v = refl
num-rem (suc n) v =
    let k : n + 1 ≡ suc n = omega arith in
    let parts : v % 2 ^ suc n ≡ v / 2 % 2 ^ n * 2 + v % 2 = ap (λ (m : ℕ). v % 2 ^ m) (sym k) ∙ mod-pow-add v n 1 in
    let half : v % 2 ^ suc n / 2 ≡ v / 2 % 2 ^ n = omega (arith, parts) in
    let odd : v % 2 ^ suc n % 2 ≡ v % 2 = omega (arith, parts) in
    rw (half, odd, num-rem n (v / 2)) refl

pub bits_of-append : (xs ys : List ℕ) → bits_of (xs ++ ys) ≡ bits_of xs ++ bits_of ys
unfolding bits_of
bits_of-append [] ys = refl
bits_of-append (x ∷ xs) ys = ap (λ (t : List Bool). num 8 x ++ t) (bits_of-append xs ys) ∙ sym (append_assoc (num 8 x) (bits_of xs) (bits_of ys))

pub bits_of-drop : (n : ℕ) (xs : List ℕ) → n ≤ length xs → bits_of (drop n xs) ≡ drop (8 * n) (bits_of xs)
bits_of-drop n xs le =
    let front : length (bits_of (take n xs)) ≡ 8 * n = length-bits_of (take n xs) ∙ ap (λ (k : ℕ). 8 * k) (length-take-le n xs le) in
    let parts : bits_of xs ≡ bits_of (take n xs) ++ bits_of (drop n xs) = ap (λ (ys : List ℕ). bits_of ys) (sym (take-append-drop n xs)) ∙ bits_of-append (take n xs) (drop n xs) in
    sym (ap (λ (t : List Bool). drop (8 * n) t) parts ∙ drop_at (bits_of (take n xs)) (bits_of (drop n xs)) (8 * n) front)

pub bits_of-take : (n : ℕ) (xs : List ℕ) → n ≤ length xs → bits_of (take n xs) ≡ take (8 * n) (bits_of xs)
bits_of-take n xs le =
    let front : length (bits_of (take n xs)) ≡ 8 * n = length-bits_of (take n xs) ∙ ap (λ (k : ℕ). 8 * k) (length-take-le n xs le) in
    let parts : bits_of xs ≡ bits_of (take n xs) ++ bits_of (drop n xs) = ap (λ (ys : List ℕ). bits_of ys) (sym (take-append-drop n xs)) ∙ bits_of-append (take n xs) (drop n xs) in
    sym (ap (λ (t : List Bool). take (8 * n) t) parts ∙ take_at (bits_of (take n xs)) (bits_of (drop n xs)) (8 * n) front)
