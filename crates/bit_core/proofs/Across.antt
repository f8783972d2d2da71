-- Bytes and words that begin within a byte, written in place.
use Rattle.std.proofs.Common.{◌≡◌, ℕ, ◌+◌, ◌-◌, ◌*◌, ◌/◌, ◌%◌, ◌^◌, ◌<◌, ◌≤◌, Bool, List, [], ◌∷◌, ◌++◌, length, get_or, take, drop, set, refl, sym, ap, ◌∙◌, append_assoc, arith, ◌≢◌, inl, inr, below_more}
use Rattle.std.proofs.lemmas.Bool.{cases_lt}
use Rattle.std.specs.Int.RustNames.{bit_or}
use Rattle.std.proofs.lemmas.Nat.{shr_below}
use Rattle.std.proofs.lemmas.List.{append-nil, take_at, drop_at, drop-drop, drop_more, take_all, take_more_set, take-append-le, drop-append-le, drop-take, take-take, length-append, length-drop, length-take-le, length-set, get_or-set_other, get_or-set_same, get_or_past}
use Rattle.layout.specs.Text.{num, bits_of}
use Rattle.layout.proofs.TextLemmas.{length-num, num-split, bits_of-append, bits_of-drop, bits_of-take}
use Rattle.bit_core.specs.Words.{zeros, spread, Holds}
use Rattle.bit_core.proofs.WordLemmas.{num_shl, num_or}
use Rattle.bit_core.proofs.PackLemmas.{append_parts, length-zeros, take_past, spread_push, holds_from}
use Rattle.bit_core.proofs.CopyLemmas.{take-add}

-- `(a << s) | (b >> (8 - s))`
pub across : (a b s : ℕ) → s < 8 → b < 256 → num 8 (bit_or (a * 2 ^ s % 2 ^ 8) (b / 2 ^ (8 - s))) ≡ take 8 (drop s (num 8 a ++ num 8 b))
across a b s lt blt =
    let ps : (8 - s) + s ≡ 8 = omega arith in
    let se : s + (8 - s) ≡ 8 = omega arith in
    let l = a * 2 ^ s % 2 ^ 8 in
    let moved : num 8 l ≡ num (8 - s) a ++ zeros s = rw ps at (num_shl (8 - s) s a) in
    let split : num 8 l ≡ num (8 - s) (l / 2 ^ s) ++ num s l = ap (λ (m : ℕ). num m l) (sym ps) ∙ num-split (8 - s) s l in
    let parts = append_parts (num (8 - s) (l / 2 ^ s)) (num s l) (num (8 - s) a) (zeros s) (length-num s l ∙ sym (length-zeros s)) (sym split ∙ moved) in
    let small : b / 2 ^ (8 - s) < 2 ^ s = shr_below b s (8 - s) (rw se blt) in
    let left : num 8 (bit_or l (b / 2 ^ (8 - s))) ≡ num (8 - s) a ++ num s (b / 2 ^ (8 - s)) =
    ap (λ (m : ℕ). num m (bit_or l (b / 2 ^ (8 - s)))) (sym ps) ∙ num_or (8 - s) s l (b / 2 ^ (8 - s)) small parts.1 ∙ ap (λ (t : List Bool). t ++ num s (b / 2 ^ (8 - s))) parts.0 in
    let first : num 8 a ≡ num s (a / 2 ^ (8 - s)) ++ num (8 - s) a = ap (λ (m : ℕ). num m a) (sym se) ∙ num-split s (8 - s) a in
    let second : num 8 b ≡ num s (b / 2 ^ (8 - s)) ++ num (8 - s) b = ap (λ (m : ℕ). num m b) (sym se) ∙ num-split s (8 - s) b in
    let front : take s (num 8 b) ≡ num s (b / 2 ^ (8 - s)) = ap (λ (t : List Bool). take s t) second ∙ take_at (num s (b / 2 ^ (8 - s))) (num (8 - s) b) s (length-num s (b / 2 ^ (8 - s))) in
    let behind : drop s (num 8 a ++ num 8 b) ≡ num (8 - s) a ++ num 8 b =
    ap (λ (t : List Bool). drop s (t ++ num 8 b)) first ∙ ap (λ (t : List Bool). drop s t) (append_assoc (num s (a / 2 ^ (8 - s))) (num (8 - s) a) (num 8 b))
    ∙ drop_at (num s (a / 2 ^ (8 - s))) (num (8 - s) a ++ num 8 b) s (length-num s (a / 2 ^ (8 - s))) in
    left
    ∙ sym (ap (λ (t : List Bool). take 8 t) behind ∙ ap (λ (k : ℕ). take k (num (8 - s) a ++ num 8 b)) (sym ps)
    ∙ take_past (num (8 - s) a) (num 8 b) (8 - s) s (length-num (8 - s) a) ∙ ap (λ (t : List Bool). num (8 - s) a ++ t) front)

bits_cons : (b : ℕ) (bytes : List ℕ) → bits_of (b ∷ bytes) ≡ num 8 b ++ bits_of bytes
unfolding bits_of
bits_cons b bytes = refl

bits_nil : bits_of [] ≡ []
unfolding bits_of
bits_nil = refl

pub no_across : (out : List ℕ) (text : List Bool) → bits_of (take 0 out) ≡ take 0 text
no_across out text = bits_nil

-- two bytes of some
pair : (bytes : List ℕ) (i : ℕ) → i + 1 < length bytes → drop (8 * i) (bits_of bytes) ≡ (num 8 (get_or bytes i 0) ++ num 8 (get_or bytes (i + 1) 0)) ++ bits_of (drop (i + 1 + 1) bytes)
pair bytes i lt =
    let b0 = get_or bytes i 0 in
    let b1 = get_or bytes (i + 1) 0 in
    sym (bits_of-drop i bytes (omega arith))
    ∙ ap (λ (t : List ℕ). bits_of t) (drop_more bytes i 0 (omega arith)) ∙ bits_cons b0 (drop (i + 1) bytes)
    ∙ ap (λ (t : List Bool). num 8 b0 ++ t) (ap (λ (t : List ℕ). bits_of t) (drop_more bytes (i + 1) 0 lt) ∙ bits_cons b1 (drop (i + 1 + 1) bytes))
    ∙ sym (append_assoc (num 8 b0) (num 8 b1) (bits_of (drop (i + 1 + 1) bytes)))

-- one more byte
pub next_across : (bytes out : List ℕ) (s i x : ℕ) → s < 8 → length bytes ≡ length out + 1 → i < length out → bits_of (take i out) ≡ take (8 * i) (drop s (bits_of bytes))
    → num 8 x ≡ take 8 (drop s (num 8 (get_or bytes i 0) ++ num 8 (get_or bytes (i + 1) 0))) → bits_of (take (i + 1) (set out i x)) ≡ take (8 * (i + 1)) (drop s (bits_of bytes))
next_across bytes out s i x lt long inside so_far is =
    let two = num 8 (get_or bytes i 0) ++ num 8 (get_or bytes (i + 1) 0) in
    let rest = bits_of (drop (i + 1 + 1) bytes) in
    let k : 8 * (i + 1) ≡ 8 * i + 8 = omega arith in
    let place : s + 8 * i ≡ 8 * i + s = omega arith in
    let len : length two ≡ 16 = omega (arith, length-append (num 8 (get_or bytes i 0)) (num 8 (get_or bytes (i + 1) 0)), length-num 8 (get_or bytes i 0), length-num 8 (get_or bytes (i + 1) 0)) in
    let short : s ≤ length two = omega arith in
    let far : 8 ≤ length (drop s two) = omega (arith, length-drop s two) in
    let here : take 8 (drop (8 * i) (drop s (bits_of bytes))) ≡ num 8 x =
    ap (λ (t : List Bool). take 8 t) (drop-drop (8 * i) s (bits_of bytes) ∙ ap (λ (n : ℕ). drop n (bits_of bytes)) place ∙ sym (drop-drop s (8 * i) (bits_of bytes)))
    ∙ ap (λ (t : List Bool). take 8 (drop s t)) (pair bytes i (omega arith))
    ∙ ap (λ (t : List Bool). take 8 t) (drop-append-le s two rest short) ∙ take-append-le 8 (drop s two) rest far ∙ sym is in
    ap (λ (t : List ℕ). bits_of t) (take_more_set out i x inside) ∙ bits_of-append (take i out) (x ∷ [])
    ∙ ap (λ (t : List Bool). t ++ bits_of (x ∷ [])) so_far
    ∙ ap (λ (t : List Bool). take (8 * i) (drop s (bits_of bytes)) ++ t) (bits_cons x [] ∙ ap (λ (t : List Bool). num 8 x ++ t) bits_nil ∙ append-nil (num 8 x) ∙ sym here)
    ∙ sym (take-add (8 * i) 8 (drop s (bits_of bytes))) ∙ ap (λ (n : ℕ). take n (drop s (bits_of bytes))) (sym k)

pub all_across : (out : List ℕ) (n : ℕ) (text : List Bool) → n ≡ length out → bits_of (take n out) ≡ take (8 * n) text → bits_of out ≡ take (8 * length out) text
all_across out n text e h = ap (λ (t : List ℕ). bits_of t) (sym (take_all n out (omega arith))) ∙ h ∙ ap (λ (k : ℕ). take (8 * k) text) e

-- bytes from a byte border on
pub whole_part : (bytes : List ℕ) (at n : ℕ) → at % 8 ≡ 0 → at + 8 * n ≤ 8 * length bytes → bits_of (take n (drop (at / 8) bytes)) ≡ take (8 * n) (drop at (bits_of bytes))
whole_part bytes at n border inside =
    let k : 8 * (at / 8) ≡ at = omega arith in
    let room : n ≤ length (drop (at / 8) bytes) = omega (arith, length-drop (at / 8) bytes) in
    bits_of-take n (drop (at / 8) bytes) room ∙ ap (λ (t : List Bool). take (8 * n) t) (bits_of-drop (at / 8) bytes (omega arith) ∙ ap (λ (m : ℕ). drop m (bits_of bytes)) k)

-- bytes from within a byte on, of the bytes that they touch
pub part_across : (bytes : List ℕ) (at n : ℕ) → at + 8 * n ≤ 8 * length bytes → at % 8 + 8 * n ≤ 8 * (n + 1) → at / 8 + (n + 1) ≤ length bytes
    → take (8 * n) (drop (at % 8) (bits_of (take (n + 1) (drop (at / 8) bytes)))) ≡ take (8 * n) (drop at (bits_of bytes))
part_across bytes at n inside small room =
    let k : 8 * (at / 8) + at % 8 ≡ at = omega arith in
    let enough : n + 1 ≤ length (drop (at / 8) bytes) = omega (arith, length-drop (at / 8) bytes) in
    let spelled : bits_of (take (n + 1) (drop (at / 8) bytes)) ≡ take (8 * (n + 1)) (drop (8 * (at / 8)) (bits_of bytes)) =
    bits_of-take (n + 1) (drop (at / 8) bytes) enough ∙ ap (λ (t : List Bool). take (8 * (n + 1)) t) (bits_of-drop (at / 8) bytes (omega arith)) in
    let cut : 8 * (n + 1) ≡ at % 8 + (8 * (n + 1) - at % 8) = omega arith in
    let le : 8 * n ≤ 8 * (n + 1) - at % 8 = omega arith in
    ap (λ (t : List Bool). take (8 * n) (drop (at % 8) t)) spelled
    ∙ ap (λ (m : ℕ). take (8 * n) (drop (at % 8) (take m (drop (8 * (at / 8)) (bits_of bytes))))) cut
    ∙ ap (λ (t : List Bool). take (8 * n) t) (drop-take (at % 8) (8 * (n + 1) - at % 8) (drop (8 * (at / 8)) (bits_of bytes)) ∙ ap (λ (t : List Bool). take (8 * (n + 1) - at % 8) t) (drop-drop (at % 8) (8 * (at / 8)) (bits_of bytes) ∙ ap (λ (m : ℕ). drop m (bits_of bytes)) k))
    ∙ take-take (8 * n) (8 * (n + 1) - at % 8) (drop at (bits_of bytes)) le

-- bytes that are written are bytes
pub small_more : (out : List ℕ) (i x : ℕ) → i < length out → x < 256 → ((k : ℕ) → k < i → get_or out k 0 < 256) → (k : ℕ) → k < i + 1 → get_or (set out i x) k 0 < 256
small_more out i x lt small below =
    below_more _ _
    (λ k h. let ne : k ≢ i = omega arith in rw (get_or-set_other out i k x 0 ne) (below k h))
    (rw (get_or-set_same out i x 0 lt) small)

pub small_all : (out : List ℕ) (n : ℕ) → length out ≤ n → ((k : ℕ) → k < n → get_or out k 0 < 256) → (k : ℕ) → get_or out k 0 < 256
small_all out n le below k =
    elim (cases_lt k n) [
      | inl here ↦ below k here
      | inr past ↦ let z : length out ≤ k = omega arith in rw (get_or_past out k 0 z) (omega arith)
    ]

-- ---- words

spread_nil : (out : List ℕ) → spread (take 0 out) ≡ []
unfolding spread
spread_nil out = refl

pub no_words : (out : List ℕ) (text : List Bool) → spread (take 0 out) ≡ take 0 text
no_words out text = spread_nil out

-- one more word
pub next_put : (out : List ℕ) (i x : ℕ) (text : List Bool) → i < length out → spread (take i out) ≡ take (64 * i) text → take 64 (num 64 x) ≡ take 64 (drop (64 * i) text)
    → spread (take (i + 1) (set out i x)) ≡ take (64 * (i + 1)) text
next_put out i x text lt so_far is =
    let k : 64 * (i + 1) ≡ 64 * i + 64 = omega arith in
    let whole : num 64 x ≡ take 64 (num 64 x) = sym (take_all 64 (num 64 x) (omega (arith, length-num 64 x))) in
    ap (λ (t : List ℕ). spread t) (take_more_set out i x lt) ∙ spread_push (take i out) x ∙ ap (λ (t : List Bool). t ++ num 64 x) so_far
    ∙ ap (λ (t : List Bool). take (64 * i) text ++ t) (whole ∙ is) ∙ sym (take-add (64 * i) 64 text) ∙ ap (λ (n : ℕ). take n text) (sym k)

-- the last word, with zeros behind its bits
pub last_put : (out : List ℕ) (last n x : ℕ) (text : List Bool) → last + 1 ≡ length out → 64 * last < n → n ≤ 64 * last + 64 → n ≤ length text → spread (take last out) ≡ take (64 * last) text
    → num 64 x ≡ take (n - 64 * last) (drop (64 * last) text) ++ zeros (64 - (n - 64 * last)) → Holds (set out last x) n (take n text)
last_put out last n x text len some few inside so_far is =
    let r = n - 64 * last in
    let k : 64 * last + (n - 64 * last) ≡ n = omega arith in
    let lt : last < length out = omega arith in
    let all : set out last x ≡ take last out ++ x ∷ [] = sym (take_all (last + 1) (set out last x) (omega (arith, length-set out last x))) ∙ take_more_set out last x lt in
    let long : length (take n text) ≡ n = length-take-le n text inside in
    let spelled : spread (set out last x) ≡ take n text ++ zeros (64 - (n - 64 * last)) =
    ap (λ (t : List ℕ). spread t) all ∙ spread_push (take last out) x ∙ ap (λ (t : List Bool). t ++ num 64 x) so_far ∙ ap (λ (t : List Bool). take (64 * last) text ++ t) is
    ∙ sym (append_assoc (take (64 * last) text) (take (n - 64 * last) (drop (64 * last) text)) (zeros (64 - (n - 64 * last))))
    ∙ ap (λ (t : List Bool). t ++ zeros (64 - (n - 64 * last))) (sym (take-add (64 * last) (n - 64 * last) text) ∙ ap (λ (m : ℕ). take m text) k) in
    holds_from (set out last x) n (64 - (n - 64 * last)) (take n text) long (omega arith) spelled
