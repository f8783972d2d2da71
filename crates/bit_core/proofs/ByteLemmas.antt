-- Words as bytes.
use Rattle.std.proofs.Common.{◌≡◌, ℕ, zero, suc, ◌+◌, ◌-◌, ◌*◌, ◌/◌, ◌%◌, ◌^◌, ◌<◌, ◌≤◌, Bool, false, List, [], ◌∷◌, ◌++◌, length, get_or, take, refl, sym, ap, ◌∙◌, arith}
use Rattle.std.specs.Int.{to_be_bytes, from_be_bytes, w64}
use Rattle.std.proofs.lemmas.Nat.{from_be_bytes-to_be_bytes_8}
use Rattle.std.proofs.lemmas.List.{take_all, take-replicate, take_more}
use Rattle.layout.specs.Text.{num, bits_of, pad}
use Rattle.bit_core.specs.Words.{ShowsFrom}
use Rattle.bit_core.specs.Words.{zeros, spread, text_of, IsPacked}
use Rattle.layout.proofs.TextLemmas.{length-num, length-bits_of, bits_of-append, bits_of-take}
use Rattle.bit_core.proofs.PackLemmas.{take_past, length-text, length-spread, spread_push}
use Rattle.bit_core.proofs.PeekLemmas.{eight, shown}

pub small_byte : (w k : ℕ) → get_or (to_be_bytes w64 w) k 0 < 256
small_byte w zero = omega arith
small_byte w (suc zero) = omega arith
small_byte w (suc (suc zero)) = omega arith
small_byte w (suc (suc (suc zero))) = omega arith
small_byte w (suc (suc (suc (suc zero)))) = omega arith
small_byte w (suc (suc (suc (suc (suc zero))))) = omega arith
small_byte w (suc (suc (suc (suc (suc (suc zero)))))) = omega arith
small_byte w (suc (suc (suc (suc (suc (suc (suc zero))))))) = omega arith
small_byte w (suc (suc (suc (suc (suc (suc (suc (suc k)))))))) = omega arith

pub word_bytes : (w : ℕ) → w < 2 ^ 64 → bits_of (to_be_bytes w64 w) ≡ num 64 w
word_bytes w lt =
    let bs = to_be_bytes w64 w in
    let long : length bs ≡ 8 = refl in
    let shows : ShowsFrom 64 (from_be_bytes w64 (to_be_bytes w64 w)) (bits_of bs) 0 = eight bs 0 (omega arith) (small_byte w) in
    let back : from_be_bytes w64 (to_be_bytes w64 w) ≡ w = from_be_bytes-to_be_bytes_8 w lt in
    let total : length (bits_of bs) ≡ 64 = omega (arith, length-bits_of bs) in
    let here = shown (bits_of bs) 0 w 64 (omega arith) (omega arith) (rw back at shows) in
    sym (sym (take_all 64 (num 64 w) (omega (arith, length-num 64 w))) ∙ here ∙ take_all 64 (bits_of bs) (omega arith))

pub more_bytes : (out bytes words : List ℕ) (w : ℕ) → w < 2 ^ 64 → bytes ≡ to_be_bytes w64 w → bits_of out ≡ spread words → bits_of (out ++ bytes) ≡ spread (words ++ w ∷ [])
more_bytes out bytes words w lt e h =
    bits_of-append out bytes ∙ ap (λ (t : List Bool). t ++ bits_of bytes) h ∙ ap (λ (t : List Bool). spread words ++ t) (ap bits_of e ∙ word_bytes w lt) ∙ sym (spread_push words w)

pub whole_bytes : (out words : List ℕ) (len : ℕ) (text : List Bool) → bits_of out ≡ spread words → IsPacked words len → text_of len words ≡ text → bits_of (take ((len + 7) / 8) out) ≡ pad text
whole_bytes out words len text h p e =
    let k = (len + 7) / 8 in
    let tl : length text ≡ len = sym (ap length e) ∙ length-text words len p in
    let many : 8 * length out ≡ 64 * length words = omega (arith, length-bits_of out, length-spread words, ap length h) in
    let inside : (len + 7) / 8 ≤ length out = omega (arith, p.fits) in
    let place : 8 * k ≡ len + (8 * k - len) = omega arith in
    let small : 8 * k - len ≤ 64 * length words - len = omega arith in
    let padding : 8 * k - len ≡ (8 - length text % 8) % 8 = omega arith in
    bits_of-take k out inside ∙ ap (λ (t : List Bool). take (8 * k) t) (h ∙ p.clean ∙ ap (λ (t : List Bool). t ++ zeros (64 * length words - len)) e)
    ∙ ap (λ (n : ℕ). take n (text ++ zeros (64 * length words - len))) place
    ∙ take_past text (zeros (64 * length words - len)) len (8 * k - len) tl
    ∙ ap (λ (t : List Bool). text ++ t) (take-replicate (8 * k - len) (64 * length words - len) false small ∙ ap zeros padding)

pub no_bytes : (out : List ℕ) → out ≡ [] → bits_of out ≡ spread []
unfolding bits_of spread
no_bytes out e = rw e refl

-- one more word of a list
pub next_bytes : (out bytes words : List ℕ) (i : ℕ) → i < length words → get_or words i 0 < 2 ^ 64 → bytes ≡ to_be_bytes w64 (get_or words i 0) → bits_of out ≡ spread (take i words) → bits_of (out ++ bytes) ≡ spread (take (i + 1) words)
next_bytes out bytes words i lt small e h = more_bytes out bytes (take i words) (get_or words i 0) small e h ∙ ap spread (sym (take_more words i 0 lt))
