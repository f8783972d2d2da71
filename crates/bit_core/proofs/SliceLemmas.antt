-- Bytes that are copied by words from any bit of some bytes.
use Rattle.std.proofs.Common.{◌≡◌, ℕ, zero, suc, ◌+◌, ◌*◌, ◌/◌, ◌%◌, ◌^◌, ◌<◌, ◌≤◌, Bool, List, [], ◌∷◌, ◌++◌, length, get_or, take, drop, refl, sym, ap, ◌∙◌, arith}
use Rattle.std.specs.Int.{to_be_bytes, w64}
use Rattle.std.proofs.lemmas.List.{length-append, length-take-le, drop-drop}
use Rattle.std.proofs.Math.Seq.{take-add}
use Rattle.layout.specs.Text.{bits_of}
use Rattle.layout.proofs.TextLemmas.{bits_of-append, bits_of-take, length-bits_of}
use Rattle.bit_core.specs.Words.{ShowsFrom}
use Rattle.bit_core.proofs.PeekLemmas.{shown}
use Rattle.bit_core.proofs.ByteLemmas.{word_bytes, small_byte}

-- n bytes from a bit of some bytes on, as a list of bytes
pub record Copied (bytes : List ℕ) (at n : ℕ) (copied : List ℕ) : Type 0 where
  pub many : length copied ≡ n
  pub small : (i : ℕ) → get_or copied i 0 < 256
  pub same : bits_of copied ≡ take (8 * n) (drop at (bits_of bytes))

pub copied_no_bytes : (bytes copied : List ℕ) (at : ℕ) → copied ≡ [] → Copied bytes at 0 copied
unfolding bits_of
copied_no_bytes bytes copied at e = rw e (record { many = refl; small = λ i. omega arith; same = refl })

small_append : (xs ys : List ℕ) → ((i : ℕ) → get_or xs i 0 < 256) → ((i : ℕ) → get_or ys i 0 < 256) → (i : ℕ) → get_or (xs ++ ys) i 0 < 256
small_append [] ys p q i = q i
small_append (x ∷ xs) ys p q zero = p 0
small_append (x ∷ xs) ys p q (suc i) = small_append xs ys (λ k. p (suc k)) q i

small_take : (n : ℕ) (xs : List ℕ) → ((i : ℕ) → get_or xs i 0 < 256) → (i : ℕ) → get_or (take n xs) i 0 < 256
small_take zero xs p i = omega arith
small_take (suc n) [] p i = omega arith
small_take (suc n) (x ∷ xs) p zero = p 0
small_take (suc n) (x ∷ xs) p (suc i) = small_take n xs (λ k. p (suc k)) i

-- the first r bytes of a word that shows the bits behind those that were copied
pub copied_bytes : (bytes copied : List ℕ) (at m r w : ℕ) → Copied bytes at m copied → r ≤ 8 → at + 8 * m + 8 * r ≤ 8 * length bytes → w < 2 ^ 64 → ShowsFrom 64 w (bits_of bytes) (at + 8 * m)
    → Copied bytes at (m + r) (copied ++ take r (to_be_bytes w64 w))
copied_bytes bytes copied at m r w h le inside lt shows =
    let text = drop at (bits_of bytes) in
    let front = take r (to_be_bytes w64 w) in
    let eight : length (to_be_bytes w64 w) ≡ 8 = refl in
    let total : 8 * (m + r) ≡ 8 * m + 8 * r = omega arith in
    let here : bits_of front ≡ take (8 * r) (drop (8 * m) text) =
    bits_of-take r (to_be_bytes w64 w) (omega arith) ∙ ap (λ (t : List Bool). take (8 * r) t) (word_bytes w lt)
    ∙ shown (bits_of bytes) (at + 8 * m) w (8 * r) (omega arith) (omega (arith, length-bits_of bytes)) shows
    ∙ ap (λ (t : List Bool). take (8 * r) t) (sym (drop-drop (8 * m) at (bits_of bytes))) in
    record {
      many = omega (arith, length-append copied front, length-take-le r (to_be_bytes w64 w) (omega arith), h.many);
      small = small_append copied front h.small (small_take r (to_be_bytes w64 w) (small_byte w));
      same = bits_of-append copied front ∙ ap (λ (t : List Bool). t ++ bits_of front) h.same ∙ ap (λ (t : List Bool). take (8 * m) text ++ t) here ∙ sym (take-add (8 * m) (8 * r) text)
          ∙ ap (λ (k : ℕ). take k text) (sym total);
    }

-- one more word
pub copied_word : (bytes copied : List ℕ) (at i w : ℕ) → Copied bytes at (8 * i) copied → at + 64 * i + 64 ≤ 8 * length bytes → w < 2 ^ 64 → ShowsFrom 64 w (bits_of bytes) (at + 64 * i)
    → Copied bytes at (8 * (i + 1)) (copied ++ to_be_bytes w64 w)
copied_word bytes copied at i w h inside lt shows =
    let k : 64 * i ≡ 8 * (8 * i) = omega arith in
    let n : 8 * (i + 1) ≡ 8 * i + 8 = omega arith in
    rw n (copied_bytes bytes copied at (8 * i) 8 w h (omega arith) (omega arith) lt (rw (← k) shows))

-- the bytes behind the last whole word
pub copied_last : (bytes copied : List ℕ) (at i n w : ℕ) → i ≡ n / 8 → Copied bytes at (8 * i) copied → at + 8 * n ≤ 8 * length bytes → w < 2 ^ 64 → ShowsFrom 64 w (bits_of bytes) (at + 64 * (n / 8))
    → Copied bytes at n (copied ++ take (n % 8) (to_be_bytes w64 w))
copied_last bytes copied at i n w e h inside lt shows =
    let k : 64 * (n / 8) ≡ 8 * (8 * (n / 8)) = omega arith in
    let total : 8 * (n / 8) + n % 8 ≡ n = omega arith in
    rw total at (copied_bytes bytes copied at (8 * (n / 8)) (n % 8) w (rw e at h) (omega arith) (omega arith) lt (rw (← k) shows))
