-- What a word of bytes shows of their bits.
use Rattle.std.proofs.Common.{◌≡◌, ℕ, ◌+◌, ◌-◌, ◌*◌, ◌/◌, ◌%◌, ◌^◌, ◌<◌, ◌≤◌, Bool, false, List, [], ◌∷◌, ◌++◌, length, get_or, take, drop, refl, sym, ap, ◌∙◌, arith, inl, inr}
use Rattle.std.specs.Int.{from_be_bytes, w64}
use Rattle.std.specs.Int.RustNames.{bit_or}
use Rattle.std.proofs.lemmas.Bool.{cases_lt}
use Rattle.std.proofs.lemmas.Nat.{shr_below, shr-shr, pow_pos, shl_whole, or_shifted, mod_below, pow-add}
use Rattle.std.proofs.lemmas.Nat.Bits.{bit_at-zero}
use Rattle.std.proofs.lemmas.List.{get_or_past, get_or_append_left, get_or-append-add, get_or-append_right, get_or-drop, get_or-take, length-drop, length-take-le, ext_get_or}
use Rattle.layout.specs.Text.{num, bits_of}
use Rattle.bit_core.specs.Words.{ShowsFrom}
use Rattle.bit_core.specs.Words.{zeros}
use Rattle.layout.proofs.TextLemmas.{length-num, get_or-num, get_or-bits_of, length-bits_of, num-split}
use Rattle.bit_core.proofs.WordLemmas.{num_cat, num_shl, num_or}
use Rattle.bit_core.proofs.PackLemmas.{append_parts, length-zeros}

zero_bit : (m : ℕ) → m < 8 → get_or (num 8 0) m false ≡ false
zero_bit m lt = get_or-num 8 0 m lt ∙ rw bit_at-zero refl

-- a bit of the bytes is a bit of a byte, or 0 behind the end
pub bits_of_byte : (bytes : List ℕ) (i m : ℕ) → m < 8 → get_or (num 8 (get_or bytes i 0)) m false ≡ get_or (bits_of bytes) (8 * i + m) false
bits_of_byte bytes i m lt =
    elim (cases_lt i (length bytes)) [
      | inl below ↦
          let q : (8 * i + m) / 8 ≡ i = omega arith in
          let r : (8 * i + m) % 8 ≡ m = omega arith in
          let inside : 8 * i + m < 8 * length bytes = omega arith in
          get_or-num 8 (get_or bytes i 0) m lt ∙ sym (get_or-bits_of bytes (8 * i + m) inside ∙ rw (q, r) refl)
      | inr above ↦
          let past : length (bits_of bytes) ≤ 8 * i + m = omega (arith, length-bits_of bytes) in
          rw (get_or_past bytes i 0 above, zero_bit m lt) (sym (get_or_past (bits_of bytes) (8 * i + m) false past))
    ]

-- one more byte
pub shows_more : (bytes : List ℕ) (at j v b : ℕ) → b < 256 → b ≡ get_or bytes (at + j) 0 → ShowsFrom (8 * j) v (bits_of bytes) (8 * at) → ShowsFrom (8 * (j + 1)) (v * 256 + b) (bits_of bytes) (8 * at)
unfolding ShowsFrom
shows_more bytes at j v b lt is h k klt =
    let n : 8 * (j + 1) ≡ 8 * j + 8 = omega arith in
    let cat : num (8 * (j + 1)) (v * 256 + b) ≡ num (8 * j) v ++ num 8 b = ap (λ (m : ℕ). num m (v * 256 + b)) n ∙ num_cat (8 * j) 8 v b lt in
    ap (λ (t : List Bool). get_or t k false) cat ∙
    elim (cases_lt k (8 * j)) [
      | inl below ↦
          get_or_append_left (num (8 * j) v) (num 8 b) false k (omega (arith, length-num (8 * j) v)) ∙ h k below
      | inr above ↦
          let m8 : k - 8 * j < 8 = omega arith in
          let place : 8 * (at + j) + (k - 8 * j) ≡ 8 * at + k = omega arith in
          get_or-append_right (num (8 * j) v) (num 8 b) (8 * j) k false (length-num (8 * j) v) above
          ∙ ap (λ (x : ℕ). get_or (num 8 x) (k - 8 * j) false) is
          ∙ bits_of_byte bytes (at + j) (k - 8 * j) m8
          ∙ ap (λ (x : ℕ). get_or (bits_of bytes) x false) place
    ]

pub shows_none : (bits : List Bool) (v at : ℕ) → ShowsFrom 0 v bits at
unfolding ShowsFrom
shows_none bits v at k lt = absurd (omega arith)

-- `(word << s) | (b >> (8 - s))`
peek_word : (w b s : ℕ) → s < 8 → b < 256 → num 64 (bit_or (w * 2 ^ s % 2 ^ 64) (b / 2 ^ (8 - s))) ≡ num (64 - s) w ++ num s (b / 2 ^ (8 - s))
peek_word w b s lt blt =
    let ps : (64 - s) + s ≡ 64 = omega arith in
    let se : s + (8 - s) ≡ 8 = omega arith in
    let l = w * 2 ^ s % 2 ^ 64 in
    let moved : num 64 l ≡ num (64 - s) w ++ zeros s = rw ps at (num_shl (64 - s) s w) in
    let split : num 64 l ≡ num (64 - s) (l / 2 ^ s) ++ num s l = ap (λ (m : ℕ). num m l) (sym ps) ∙ num-split (64 - s) s l in
    let parts = append_parts (num (64 - s) (l / 2 ^ s)) (num s l) (num (64 - s) w) (zeros s) (length-num s l ∙ sym (length-zeros s)) (sym split ∙ moved) in
    let small : b / 2 ^ (8 - s) < 2 ^ s = shr_below b s (8 - s) (rw se blt) in
    ap (λ (m : ℕ). num m (bit_or l (b / 2 ^ (8 - s)))) (sym ps) ∙ num_or (64 - s) s l (b / 2 ^ (8 - s)) small parts.1 ∙ ap (λ (t : List Bool). t ++ num s (b / 2 ^ (8 - s))) parts.0

-- the bits of a word behind the first s
pub behind : (w s k : ℕ) → s ≤ 64 → k < 64 - s → get_or (num (64 - s) w) k false ≡ get_or (num 64 w) (s + k) false
behind w s k le lt =
    let sp : s + (64 - s) ≡ 64 = omega arith in
    let split : num 64 w ≡ num s (w / 2 ^ (64 - s)) ++ num (64 - s) w = ap (λ (m : ℕ). num m w) (sym sp) ∙ num-split s (64 - s) w in
    let len : length (num s (w / 2 ^ (64 - s))) ≡ s = length-num s (w / 2 ^ (64 - s)) in
    sym (ap (λ (t : List Bool). get_or t (s + k) false) split ∙ ap (λ (x : ℕ). get_or (num s (w / 2 ^ (64 - s)) ++ num (64 - s) w) (x + k) false) (sym len) ∙ get_or-append-add (num s (w / 2 ^ (64 - s))) (num (64 - s) w) k false)

pub peeks : (bytes : List ℕ) (at w b : ℕ) → b < 256 → b ≡ get_or bytes (at / 8 + 8) 0 → ShowsFrom 64 w (bits_of bytes) (8 * (at / 8)) → ShowsFrom 64 (bit_or (w * 2 ^ (at % 8) % 2 ^ 64) (b / 2 ^ (8 - at % 8))) (bits_of bytes) at
unfolding ShowsFrom
peeks bytes at w b blt is h k klt =
    let s = at % 8 in
    let slt : at % 8 < 8 = omega arith in
    ap (λ (t : List Bool). get_or t k false) (peek_word w b s slt blt) ∙
    elim (cases_lt k (64 - s)) [
      | inl below ↦
          let place : 8 * (at / 8) + (s + k) ≡ at + k = omega arith in
          let inside : s + k < 64 = omega arith in
          get_or_append_left (num (64 - s) w) (num s (b / 2 ^ (8 - s))) false k (omega (arith, length-num (64 - s) w))
          ∙ behind w s k (omega arith) below ∙ h (s + k) inside ∙ ap (λ (x : ℕ). get_or (bits_of bytes) x false) place
      | inr above ↦
          let m = k - (64 - s) in
          let mlt : k - (64 - s) < s = omega arith in
          let place : 8 * (at / 8 + 8) + (k - (64 - s)) ≡ at + k = omega arith in
          let se : s + (8 - s) ≡ 8 = omega arith in
          let split : num 8 b ≡ num s (b / 2 ^ (8 - s)) ++ num (8 - s) b = ap (λ (n : ℕ). num n b) (sym se) ∙ num-split s (8 - s) b in
          get_or-append_right (num (64 - s) w) (num s (b / 2 ^ (8 - s))) (64 - s) k false (length-num (64 - s) w) above
          ∙ sym (ap (λ (t : List Bool). get_or t m false) split ∙ get_or_append_left (num s (b / 2 ^ (8 - s))) (num (8 - s) b) false m (omega (arith, length-num s (b / 2 ^ (8 - s)))))
          ∙ ap (λ (x : ℕ). get_or (num 8 x) m false) is
          ∙ bits_of_byte bytes (at / 8 + 8) m (omega arith)
          ∙ ap (λ (x : ℕ). get_or (bits_of bytes) x false) place
    ]

-- what a word shows, as a list
pub shown : (bits : List Bool) (at w n : ℕ) → n ≤ 64 → at + n ≤ length bits → ShowsFrom 64 w bits at → take n (num 64 w) ≡ take n (drop at bits)
unfolding ShowsFrom
shown bits at w n le inside h =
    let l1 : length (take n (num 64 w)) ≡ n = length-take-le n (num 64 w) (omega (arith, length-num 64 w)) in
    let l2 : length (take n (drop at bits)) ≡ n = length-take-le n (drop at bits) (omega (arith, length-drop at bits)) in
    ext_get_or false (take n (num 64 w)) (take n (drop at bits)) (l1 ∙ sym l2)
    (λ i lt.
    let ilt : i < n = omega arith in
    get_or-take n (num 64 w) i false ilt ∙ h i (omega arith) ∙ sym (get_or-take n (drop at bits) i false ilt ∙ get_or-drop at bits i false))

pub last_step : (bytes : List ℕ) (at i v b : ℕ) → v < 2 ^ (8 * i) → i < 8 → b < 256 → b ≡ get_or bytes (at + i) 0 → ShowsFrom (8 * i) v (bits_of bytes) (8 * at)
    → (bit_or (v * 2 ^ 8 % 2 ^ 64) b < 2 ^ (8 * (i + 1))) × ShowsFrom (8 * (i + 1)) (bit_or (v * 2 ^ 8 % 2 ^ 64) b) (bits_of bytes) (8 * at)
last_step bytes at i v b vlt lt blt is h =
    let e : bit_or (v * 2 ^ 8 % 2 ^ 64) b ≡ v * 256 + b = ap (λ (m : ℕ). bit_or m b) (shl_whole v (8 * i) 8 64 vlt (omega arith)) ∙ or_shifted v 8 b blt in
    let n : 8 * (i + 1) ≡ 8 * i + 8 = omega arith in
    let p : 2 ^ (8 * (i + 1)) ≡ 2 ^ (8 * i) * 256 = ap (λ (m : ℕ). 2 ^ m) n ∙ pow-add 2 (8 * i) 8 in
    (rw (e, p) (omega arith), rw e (shows_more bytes at i v b blt is h))

horner : (b0 b1 b2 b3 b4 b5 b6 b7 : ℕ) → from_be_bytes w64 (b0 ∷ b1 ∷ b2 ∷ b3 ∷ b4 ∷ b5 ∷ b6 ∷ b7 ∷ []) ≡ (((((((0 * 256 + b0) * 256 + b1) * 256 + b2) * 256 + b3) * 256 + b4) * 256 + b5) * 256 + b6) * 256 + b7
horner b0 b1 b2 b3 b4 b5 b6 b7 = omega arith

pub eight : (bytes : List ℕ) (at : ℕ) → at + 8 ≤ length bytes → ((k : ℕ) → get_or bytes k 0 < 256)
    → ShowsFrom 64 (from_be_bytes w64 (get_or bytes at 0 ∷ get_or bytes (at + 1) 0 ∷ get_or bytes (at + 2) 0 ∷ get_or bytes (at + 3) 0 ∷ get_or bytes (at + 4) 0 ∷ get_or bytes (at + 5) 0 ∷ get_or bytes (at + 6) 0 ∷ get_or bytes (at + 7) 0 ∷ [])) (bits_of bytes) (8 * at)
eight bytes at le lt =
    let z : at + 0 ≡ at = omega arith in
    let b0 = get_or bytes at 0 in
    let b1 = get_or bytes (at + 1) 0 in
    let b2 = get_or bytes (at + 2) 0 in
    let b3 = get_or bytes (at + 3) 0 in
    let b4 = get_or bytes (at + 4) 0 in
    let b5 = get_or bytes (at + 5) 0 in
    let b6 = get_or bytes (at + 6) 0 in
    let b7 = get_or bytes (at + 7) 0 in
    let s1 = shows_more bytes at 0 0 b0 (lt at) (ap (λ (k : ℕ). get_or bytes k 0) (sym z)) (shows_none (bits_of bytes) 0 (8 * at)) in
    let s2 = shows_more bytes at 1 (0 * 256 + b0) b1 (lt (at + 1)) refl s1 in
    let s3 = shows_more bytes at 2 _ b2 (lt (at + 2)) refl s2 in
    let s4 = shows_more bytes at 3 _ b3 (lt (at + 3)) refl s3 in
    let s5 = shows_more bytes at 4 _ b4 (lt (at + 4)) refl s4 in
    let s6 = shows_more bytes at 5 _ b5 (lt (at + 5)) refl s5 in
    let s7 = shows_more bytes at 6 _ b6 (lt (at + 6)) refl s6 in
    let s8 = shows_more bytes at 7 _ b7 (lt (at + 7)) refl s7 in
    rw (horner b0 b1 b2 b3 b4 b5 b6 b7) s8

-- `(word << s >> 1) >> (63 - n)` is n bits behind the first s
pub number_of : (bits : List Bool) (at w n s : ℕ) → s < 8 → n ≤ 32 → at + s + n ≤ length bits → ShowsFrom 64 w bits at
    → (w * 2 ^ s % 2 ^ 64 / 2 / 2 ^ (63 - n) < 2 ^ n) × (num n (w * 2 ^ s % 2 ^ 64 / 2 / 2 ^ (63 - n)) ≡ take n (drop (at + s) bits))
unfolding ShowsFrom
number_of bits at w n s slt le inside h =
    let ps : (64 - s) + s ≡ 64 = omega arith in
    let nm : n + (64 - n) ≡ 64 = omega arith in
    let m : 1 + (63 - n) ≡ 64 - n = omega arith in
    let l = w * 2 ^ s % 2 ^ 64 in
    let llt : w * 2 ^ s % 2 ^ 64 < 2 ^ 64 = mod_below (w * 2 ^ s) (2 ^ 64) (pow_pos 64) in
    let twice : l / 2 / 2 ^ (63 - n) ≡ l / 2 ^ (64 - n) = shr-shr l 1 (63 - n) ∙ ap (λ (k : ℕ). l / 2 ^ k) m in
    let below : l / 2 ^ (64 - n) < 2 ^ n = shr_below l n (64 - n) (rw nm llt) in
    let split : num 64 l ≡ num n (l / 2 ^ (64 - n)) ++ num (64 - n) l = ap (λ (k : ℕ). num k l) (sym nm) ∙ num-split n (64 - n) l in
    let moved : num 64 l ≡ num (64 - s) w ++ zeros s = rw ps at (num_shl (64 - s) s w) in
    let l2 : length (take n (drop (at + s) bits)) ≡ n = length-take-le n (drop (at + s) bits) (omega (arith, length-drop (at + s) bits)) in (
      rw twice below,
      rw twice (ext_get_or false (num n (l / 2 ^ (64 - n))) (take n (drop (at + s) bits)) (length-num n (l / 2 ^ (64 - n)) ∙ sym l2)
          (λ i lt.
          let ilt : i < n = omega (arith, length-num n (l / 2 ^ (64 - n))) in
          let place : at + (s + i) ≡ (at + s) + i = omega arith in
          sym (ap (λ (t : List Bool). get_or t i false) split ∙ get_or_append_left (num n (l / 2 ^ (64 - n))) (num (64 - n) l) false i lt)
          ∙ ap (λ (t : List Bool). get_or t i false) moved
          ∙ get_or_append_left (num (64 - s) w) (zeros s) false i (omega (arith, length-num (64 - s) w))
          ∙ behind w s i (omega arith) (omega arith)
          ∙ h (s + i) (omega arith)
          ∙ ap (λ (k : ℕ). get_or bits k false) place
          ∙ sym (get_or-take n (drop (at + s) bits) i false ilt ∙ get_or-drop (at + s) bits i false))),
    )

pub number_at_place : (bytes : List ℕ) (at w n : ℕ) → n ≤ 32 → at + n ≤ 8 * length bytes → ShowsFrom 64 w (bits_of bytes) (8 * (at / 8))
    → (w * 2 ^ (at % 8) % 2 ^ 64 / 2 / 2 ^ (63 - n) < 2 ^ n) × (num n (w * 2 ^ (at % 8) % 2 ^ 64 / 2 / 2 ^ (63 - n)) ≡ take n (drop at (bits_of bytes)))
number_at_place bytes at w n le inside h =
    let place : 8 * (at / 8) + at % 8 ≡ at = omega arith in
    let r = number_of (bits_of bytes) (8 * (at / 8)) w n (at % 8) (omega arith) le (omega (arith, length-bits_of bytes)) h in
    (r.0, r.1 ∙ ap (λ (k : ℕ). take n (drop k (bits_of bytes))) place)
