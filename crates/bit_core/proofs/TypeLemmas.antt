-- Texts that are seen through the fields of a type.
use Rattle.std.proofs.Common.{◌≡◌, ℕ, zero, suc, ◌+◌, ◌-◌, ◌*◌, ◌/◌, ◌%◌, ◌^◌, ◌<◌, ◌≤◌, Bool, true, false, eqb, List, [], ◌∷◌, ◌++◌, length, get_or, take, drop, refl, sym, ap, ◌∙◌, append_assoc, arith}
use Rattle.std.specs.Int.{bit_at, w64, trailing_zeros}
use Rattle.std.specs.Prelude.{Some, None, slice_get, bit_and}
use Rattle.std.proofs.lemmas.Nat.Bits.{bit_at-trailing_zeros, shr_and_one}
use Rattle.std.proofs.lemmas.Option.{slice_get-get_or, slice_get_past}
use Rattle.std.proofs.lemmas.List.{append-nil, take_at, take-take, take_all, length-append, length-take, length-drop, drop-append-le, take-append-le, ext_get_or, get_or-replicate, get_or-take, get_or-drop, get_or_read, take_more}
use Rattle.layout.specs.Text.{num, bits_of, value_after}
use Rattle.bit_core.specs.Trim.{trimmed}
use Rattle.bit_core.specs.Words.{zeros, spread, text_of, IsPacked, Holds}
use Rattle.layout.proofs.TextLemmas.{length-num, value_after-num, length-bits_of, left_parts, get_or-num, num-split}
use Rattle.bit_core.proofs.Trims.{trimmed-zero, trimmed-one}
use Rattle.bit_core.proofs.WordLemmas.{num_same, num_zeros}
use Rattle.bit_core.proofs.PackLemmas.{holds_from, length-text, length-spread, length-zeros, zeros-add, append_parts, spread_push, text_whole, length_front}
use Rattle.bit_core.proofs.CopyLemmas.{spread_nil, word_at}

pub holds_none : (words : List ℕ) → words ≡ [] → Holds words 0 []
holds_none words e = holds_from words 0 0 [] refl (omega arith) (rw e spread_nil)

pub len_is : (words : List ℕ) (len : ℕ) (text : List Bool) → IsPacked words len → text_of len words ≡ text → len ≡ length text
len_is words len text h e = sym (length-text words len h) ∙ ap length e

pub of_new : (old words : List ℕ) (n : ℕ) (text : List Bool) → Holds words (0 + n) (text_of 0 old ++ text) → Holds words n text
unfolding text_of
of_new old words n text h = let z : 0 + n ≡ n = omega arith in rw z at h

pub cut_text : (words : List ℕ) (all len : ℕ) (text : List Bool) → text_of all words ≡ text → len ≤ all → text_of len words ≡ take len text
unfolding text_of
cut_text words all len text e le = sym (take-take len all (spread words) le) ∙ ap (λ (t : List Bool). take len t) e

pub count_is : (words : List ℕ) (len : ℕ) → IsPacked words len → length words ≡ (len + 63) / 64
count_is words len h = omega (arith, h.fits, h.tight)

pub each_is : (words : List ℕ) (len : ℕ) (text : List Bool) → IsPacked words len → text_of len words ≡ text → ((i : ℕ) → get_or words i 0 < 2 ^ 64)
    → (i : ℕ) → i < length words → get_or words i 0 ≡ value_after 0 (take 64 (drop (64 * i) text ++ zeros 64))
each_is words len text h e small i lt =
    let p = 64 * length words - len in
    let plt : 64 * length words - len < 64 = omega (arith, h.fits, h.tight) in
    let tl : length text ≡ len = sym (len_is words len text h e) in
    let inside : 64 * i ≤ length text = omega (arith, h.fits, h.tight) in
    let whole : spread words ≡ text ++ zeros p = h.clean ∙ ap (λ (t : List Bool). t ++ zeros p) e in
    let rest = drop (64 * i) text in
    let padding : zeros 64 ≡ zeros p ++ zeros (64 - p) = ap zeros (let k : 64 ≡ p + (64 - p) = omega arith in k) ∙ sym (zeros-add p (64 - p)) in
    let long : 64 ≤ length (rest ++ zeros p) = omega (arith, length-append rest (zeros p), length-zeros p, length-drop (64 * i) text, h.fits, h.tight) in
    let spelled : num 64 (get_or words i 0) ≡ take 64 (rest ++ zeros 64) =
    word_at words i lt ∙ ap (λ (t : List Bool). take 64 (drop (64 * i) t)) whole ∙ ap (λ (t : List Bool). take 64 t) (drop-append-le (64 * i) text (zeros p) inside)
    ∙ sym (ap (λ (t : List Bool). take 64 (rest ++ t)) padding ∙ ap (λ (t : List Bool). take 64 t) (sym (append_assoc rest (zeros p) (zeros (64 - p)))) ∙ take-append-le 64 (rest ++ zeros p) (zeros (64 - p)) long) in
    let value = value_after-num 0 64 (get_or words i 0) (small i) in
    sym (ap (λ (t : List Bool). value_after 0 t) (sym spelled) ∙ value ∙ (let z : 0 * 2 ^ 64 + get_or words i 0 ≡ get_or words i 0 = omega arith in z))

pub left_front : (bits : List Bool) (at n e : ℕ) → at + n ≤ e → e ≤ length bits → take n (drop at (take e bits)) ≡ take n (drop at bits)
left_front bits at n e le inside =
    ap (λ (t : List Bool). take n t) (left_parts bits at n e le) ∙ take_at (take n (drop at bits)) (drop (at + n) (take e bits)) n (omega (arith, length-take n (drop at bits), length-drop at bits))

-- ---- one bit

word_bit : (w k : ℕ) → k < 64 → get_or (num 64 w) k false ≡ eqb (bit_and (w / 2 ^ (63 - k)) 1) 1
word_bit w k lt = let e : 64 - 1 - k ≡ 63 - k = omega arith in get_or-num 64 w k lt ∙ rw (shr_and_one, e) refl

bit_there : (words : List ℕ) (len i : ℕ) → IsPacked words len → i < len → get_or (text_of len words) i false ≡ eqb (bit_and (get_or words (i / 64) 0 / 2 ^ (63 - i % 64)) 1) 1
unfolding text_of
bit_there words len i h lt =
    let k = i / 64 in
    let m = i % 64 in
    let inside : i / 64 < length words = omega (arith, h.fits) in
    let mlt : i % 64 < 64 = omega arith in
    let place : 64 * (i / 64) + i % 64 ≡ i = omega arith in
    get_or-take len (spread words) i false lt
    ∙ ap (λ (x : ℕ). get_or (spread words) x false) (sym place)
    ∙ sym (get_or-drop (64 * k) (spread words) m false)
    ∙ sym (ap (λ (t : List Bool). get_or t m false) (word_at words k inside) ∙ get_or-take 64 (drop (64 * k) (spread words)) m false mlt)
    ∙ word_bit (get_or words k 0) m mlt

pub bit_got : (words : List ℕ) (len i w : ℕ) (text : List Bool) → IsPacked words len → text_of len words ≡ text → i < len → w ≡ get_or words (i / 64) w → Some (eqb (bit_and (w / 2 ^ (63 - i % 64)) 1) 1) ≡ slice_get text i
bit_got words len i w text h e lt read =
    let inside : i < length text = omega (arith, len_is words len text h e) in
    let here : i / 64 < length words = omega (arith, h.fits) in
    let known : w ≡ get_or words (i / 64) 0 = get_or_read words (i / 64) w here read 0 in
    sym (slice_get-get_or text i false inside ∙ ap (λ (t : List Bool). Some (get_or t i false)) (sym e) ∙ ap (λ (b : Bool). Some b) (bit_there words len i h lt)
    ∙ ap (λ (x : ℕ). Some (eqb (bit_and (x / 2 ^ (63 - i % 64)) 1) 1)) (sym known))

pub no_bit : (words : List ℕ) (len i : ℕ) (text : List Bool) → IsPacked words len → text_of len words ≡ text → len ≤ i → None ≡ slice_get text i
no_bit words len i text h e le = sym (slice_get_past text i (omega (arith, len_is words len text h e)))

-- ---- equal words

spread_cons : (w : ℕ) (ws : List ℕ) → spread (w ∷ ws) ≡ num 64 w ++ spread ws
unfolding spread
spread_cons w ws = refl

pub same_spread : (a b : List ℕ) → length a ≡ length b → ((i : ℕ) → get_or a i 0 < 2 ^ 64) → ((i : ℕ) → get_or b i 0 < 2 ^ 64) → spread a ≡ spread b → a ≡ b
same_spread [] [] l p q e = refl
same_spread [] (y ∷ b) l p q e = absurd cc
same_spread (x ∷ a) [] l p q e = absurd cc
same_spread (x ∷ a) (y ∷ b) l p q e =
    let tails : length a ≡ length b = omega arith in
    let parts = append_parts (num 64 x) (spread a) (num 64 y) (spread b) (omega (arith, length-spread a, length-spread b)) (sym (spread_cons x a) ∙ e ∙ spread_cons y b) in
    let head = num_same 64 x y (p 0) (q 0) parts.0 in
    let tail = same_spread a b tails (λ i. p (suc i)) (λ i. q (suc i)) parts.1 in
    rw (head, tail) refl

pub same_words : (a b : List ℕ) (len : ℕ) (t u : List Bool) → IsPacked a len → IsPacked b len → text_of len a ≡ t → text_of len b ≡ u → ((i : ℕ) → get_or a i 0 < 2 ^ 64) → ((i : ℕ) → get_or b i 0 < 2 ^ 64) → t ≡ u → a ≡ b
same_words a b len t u ha hb ta tb p q e =
    let k : length a ≡ length b = omega (arith, ha.fits, ha.tight, hb.fits, hb.tight) in
    same_spread a b k p q (ha.clean ∙ ap (λ (x : List Bool). x ++ zeros (64 * length a - len)) (ta ∙ e ∙ sym tb) ∙ ap (λ (n : ℕ). text_of len b ++ zeros (64 * n - len)) k ∙ sym hb.clean)

pub same_texts : (a b : List ℕ) (la lb : ℕ) (t u : List Bool) → text_of la a ≡ t → text_of lb b ≡ u → la ≡ lb → a ≡ b → t ≡ u
same_texts a b la lb t u ta tb l e = sym ta ∙ ap (λ (n : ℕ). text_of n a) l ∙ ap (λ (x : List ℕ). text_of lb x) e ∙ tb

-- ---- no zeros at the end

pub trimmed-zeros : (t : List Bool) (n : ℕ) → trimmed (t ++ zeros n) ≡ trimmed t
trimmed-zeros t zero = rw (append-nil t) refl
trimmed-zeros t (suc n) =
    let k : zeros (suc n) ≡ zeros n ++ false ∷ [] = ap zeros (let e : suc n ≡ n + 1 = omega arith in e) ∙ sym (zeros-add n 1) in
    ap (λ (z : List Bool). trimmed (t ++ z)) k ∙ ap trimmed (sym (append_assoc t (zeros n) (false ∷ []))) ∙ trimmed-zero (t ++ zeros n) ∙ trimmed-zeros t n

pub trimmed_packed : (words : List ℕ) (len : ℕ) (text : List Bool) → IsPacked words len → text_of len words ≡ text → trimmed (spread words) ≡ trimmed text
trimmed_packed words len text h e = ap trimmed h.clean ∙ trimmed-zeros (text_of len words) (64 * length words - len) ∙ ap trimmed e

-- a word of zeros at the end
pub trimmed_word : (words : List ℕ) (count : ℕ) → 0 < count → count ≤ length words → get_or words (count - 1) 0 ≡ 0 → trimmed (spread (take (count - 1) words)) ≡ trimmed (spread (take count words))
trimmed_word words count pos le e =
    let k : count ≡ (count - 1) + 1 = omega arith in
    let inside : count - 1 < length words = omega arith in
    sym (ap (λ (n : ℕ). trimmed (spread (take n words))) k
    ∙ ap (λ (t : List ℕ). trimmed (spread t)) (take_more words (count - 1) 0 inside)
    ∙ ap trimmed (spread_push (take (count - 1) words) (get_or words (count - 1) 0) ∙ ap (λ (w : ℕ). spread (take (count - 1) words) ++ num 64 w) e ∙ ap (λ (t : List Bool). spread (take (count - 1) words) ++ t) (num_zeros 64))
    ∙ trimmed-zeros (spread (take (count - 1) words)) 64)

low_zeros : (t w : ℕ) → ((i : ℕ) → i < t → bit_at w i ≡ 0) → num t w ≡ zeros t
low_zeros t w h =
    ext_get_or false (num t w) (zeros t) (length-num t w ∙ sym (length-zeros t))
    (λ i lt.
    let ilt : i < t = omega (arith, length-num t w) in
    let jlt : t - 1 - i < t = omega arith in
    get_or-num t w i ilt ∙ ap (λ (m : ℕ). eqb m 1) (h (t - 1 - i) jlt) ∙ sym (get_or-replicate t i false false ilt))

one_last : (n v : ℕ) → v % 2 ≡ 1 → num (suc n) v ≡ num n (v / 2) ++ true ∷ []
unfolding num
one_last n v e = rw e refl

-- the last 1 of a word
last_one : (w : ℕ) → 0 < w → w < 2 ^ 64 → num 64 w ≡ (num (63 - trailing_zeros w64 w) (w / 2 ^ trailing_zeros w64 w / 2) ++ true ∷ []) ++ zeros (trailing_zeros w64 w)
last_one w pos lt =
    let t = trailing_zeros w64 w in
    let f = bit_at-trailing_zeros w64 w pos lt in
    let tlt : trailing_zeros w64 w < 64 = f.0 in
    let k : suc (63 - t) + t ≡ 64 = omega arith in
    ap (λ (n : ℕ). num n w) (sym k) ∙ num-split (suc (63 - t)) t w
    ∙ ap (λ (x : List Bool). x ++ num t w) (one_last (63 - t) (w / 2 ^ t) f.1)
    ∙ ap (λ (x : List Bool). (num (63 - t) (w / 2 ^ t / 2) ++ true ∷ []) ++ x) (low_zeros t w f.2)

pub trimmed_at_one : (words : List ℕ) (count w : ℕ) → 0 < count → count ≤ length words → w ≡ get_or words (count - 1) 0 → 0 < w → w < 2 ^ 64 → text_of (64 * count - trailing_zeros w64 w) words ≡ trimmed (spread (take count words))
trimmed_at_one words count w pos le is wpos wlt =
    let t = trailing_zeros w64 w in
    let tlt : trailing_zeros w64 w < 64 = (bit_at-trailing_zeros w64 w wpos wlt).0 in
    let k : count ≡ (count - 1) + 1 = omega arith in
    let inside : count - 1 < length words = omega arith in
    let front = spread (take (count - 1) words) in
    let body = num (63 - t) (w / 2 ^ t / 2) in
    let whole : spread (take count words) ≡ ((front ++ body) ++ true ∷ []) ++ zeros t =
    ap (λ (n : ℕ). spread (take n words)) k ∙ ap spread (take_more words (count - 1) 0 inside) ∙ spread_push (take (count - 1) words) (get_or words (count - 1) 0)
    ∙ ap (λ (x : ℕ). front ++ num 64 x) (sym is) ∙ ap (λ (x : List Bool). front ++ x) (last_one w wpos wlt)
    ∙ sym (append_assoc front (body ++ true ∷ []) (zeros t)) ∙ ap (λ (x : List Bool). x ++ zeros t) (sym (append_assoc front body (true ∷ []))) in
    let cut : trimmed (spread (take count words)) ≡ (front ++ body) ++ true ∷ [] = ap trimmed whole ∙ trimmed-zeros ((front ++ body) ++ true ∷ []) t ∙ trimmed-one (front ++ body) in
    let all : text_of (64 * count) words ≡ spread (take count words) = text_whole words (64 * count) count refl le in
    let len : length ((front ++ body) ++ true ∷ []) ≡ 64 * count - t = omega (arith, ap length whole, length-append ((front ++ body) ++ true ∷ []) (zeros t), length-zeros t, length_front words count le) in
    cut_text words (64 * count) (64 * count - t) (spread (take count words)) all (omega arith)
    ∙ ap (λ (x : List Bool). take (64 * count - t) x) whole ∙ take_at ((front ++ body) ++ true ∷ []) (zeros t) (64 * count - t) len ∙ sym cut

pub trimmed_nothing : (words : List ℕ) (count : ℕ) → count ≤ 0 → text_of 0 words ≡ trimmed (spread (take count words))
unfolding text_of trimmed
trimmed_nothing words count le = let z : count ≡ 0 = omega arith in rw (z, spread_nil) refl

-- ---- what calls leave

pub put_text : (old new : List ℕ) (len n v word : ℕ) (text : List Bool) → text_of len old ≡ text → take n (num 64 word) ≡ num n v → Holds new (len + n) (text_of len old ++ take n (num 64 word)) → text_of (len + n) new ≡ text ++ num n v
put_text old new len n v word text e w h = h.spelled ∙ ap (λ (t : List Bool). t ++ take n (num 64 word)) e ∙ ap (λ (t : List Bool). text ++ t) w

pub bytes_text : (old new bytes : List ℕ) (len : ℕ) (text : List Bool) → text_of len old ≡ text → Holds new (len + 8 * length bytes) (text_of len old ++ take (8 * length bytes) (drop 0 (bits_of bytes))) → text_of (len + 8 * length bytes) new ≡ text ++ bits_of bytes
bytes_text old new bytes len text e h =
    let le : length (bits_of bytes) ≤ 8 * length bytes = omega (arith, length-bits_of bytes) in
    h.spelled ∙ ap (λ (t : List Bool). t ++ take (8 * length bytes) (bits_of bytes)) e ∙ ap (λ (t : List Bool). text ++ t) (take_all (8 * length bytes) (bits_of bytes) le)
