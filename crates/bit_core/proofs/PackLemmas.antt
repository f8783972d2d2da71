-- What a list of words holds after a word is put behind its bits.
use Rattle.std.proofs.Common.{◌≡◌, ℕ, suc, ◌+◌, ◌-◌, ◌*◌, ◌/◌, ◌%◌, ◌^◌, ◌<◌, ◌≤◌, Bool, false, List, [], ◌∷◌, ◌++◌, length, get_or, take, drop, set, refl, sym, ap, ◌∙◌, append_assoc, arith}
use Rattle.std.specs.Int.RustNames.{bit_or}
use Rattle.std.proofs.lemmas.Nat.{shr_below}
use Rattle.std.proofs.lemmas.List.{append-nil, length-replicate, replicate-append-replicate, take_at, drop_at, length-append, length-take, length-take-le, take-append-le, set_split, set-get_or, set-append_left, drop_all, get_or_append_left, take-take, take-append-drop, drop_more, get_or_read, get_or-take}
use Rattle.std.proofs.lemmas.List.Concat.{flat_map-append}
use Rattle.layout.specs.Text.{num}
use Rattle.bit_core.specs.Words.{zeros, spread, text_of, IsPacked, Holds, IsFront}
use Rattle.layout.proofs.TextLemmas.{length-num, num-split}
use Rattle.bit_core.proofs.WordLemmas.{num_or, num_shl}

pub append_parts : (a b c d : List Bool) → length b ≡ length d → a ++ b ≡ c ++ d → (a ≡ c) × (b ≡ d)
append_parts a b c d len e =
    let la : length c ≡ length a = omega (arith, length-append a b, length-append c d, ap length e) in (
      sym (take_at a b (length a) refl) ∙ ap (λ (t : List Bool). take (length a) t) e ∙ take_at c d (length a) la,
      sym (drop_at a b (length a) refl) ∙ ap (λ (t : List Bool). drop (length a) t) e ∙ drop_at c d (length a) la,
    )

pub zeros-add : (a b : ℕ) → zeros a ++ zeros b ≡ zeros (a + b)
zeros-add a b = replicate-append-replicate a b false

pub length-zeros : (n : ℕ) → length (zeros n) ≡ n
length-zeros n = length-replicate n false

pub spread-append : (xs ys : List ℕ) → spread (xs ++ ys) ≡ spread xs ++ spread ys
unfolding spread
spread-append xs ys = flat_map-append (num 64) xs ys

pub spread-one : (w : ℕ) → spread (w ∷ []) ≡ num 64 w
unfolding spread
spread-one w = append-nil (num 64 w)

pub spread_push : (xs : List ℕ) (w : ℕ) → spread (xs ++ w ∷ []) ≡ spread xs ++ num 64 w
spread_push xs w = spread-append xs (w ∷ []) ∙ ap (λ (t : List Bool). spread xs ++ t) (spread-one w)

pub length-spread : (words : List ℕ) → length (spread words) ≡ 64 * length words
unfolding spread
length-spread [] = refl
length-spread (w ∷ words) = omega (arith, length-append (num 64 w) (spread words), length-num 64 w, length-spread words)

pub holds_from : (words : List ℕ) (len p : ℕ) (text : List Bool) → length text ≡ len → p < 64 → spread words ≡ text ++ zeros p → Holds words len text
unfolding text_of
holds_from words len p text tl lt e =
    let total : len + p ≡ 64 * length words = omega (arith, length-spread words, ap length e, length-append text (zeros p), length-zeros p) in
    let front : text_of len words ≡ text = ap (λ (t : List Bool). take len t) e ∙ take_at text (zeros p) len tl in
    let rest : 64 * length words - len ≡ p = omega arith in
    record {
      packed = record { fits = omega arith; tight = omega arith; clean = rw (rest, front) e };
      spelled = front;
    }

pub length-text : (words : List ℕ) (len : ℕ) → IsPacked words len → length (text_of len words) ≡ len
unfolding text_of
length-text words len h = omega (arith, h.fits, length-take len (spread words), length-spread words)

last_split : (words : List ℕ) (k y : ℕ) → k + 1 ≡ length words → set words k y ≡ take k words ++ y ∷ []
last_split words k y e =
    let within : k < length words = omega arith in
    let past : length words ≤ suc k = omega arith in
    set_split words k y within ∙ ap (λ (t : List ℕ). take k words ++ y ∷ t) (drop_all (suc k) words past)

-- `words[k] |= x`, where the last p bits of the last word are 0
pub or_last : (words : List ℕ) (k p x : ℕ) (text : List Bool) → k + 1 ≡ length words → p ≤ 64 → x < 2 ^ p → spread words ≡ text ++ zeros p → spread (set words k (bit_or (get_or words k 0) x)) ≡ text ++ num p x
or_last words k p x text e le lt here =
    let l = get_or words k 0 in
    let q = 64 - p in
    let qp : q + p ≡ 64 = omega arith in
    let front = spread (take k words) in
    let was : words ≡ take k words ++ l ∷ [] = sym (set-get_or words k 0) ∙ last_split words k l e in
    let was_spread : spread words ≡ (front ++ num q (l / 2 ^ p)) ++ num p l =
    ap spread was ∙ spread_push (take k words) l ∙ ap (λ (n : ℕ). front ++ num n l) (sym qp) ∙ ap (λ (t : List Bool). front ++ t) (num-split q p l) ∙ sym (append_assoc front (num q (l / 2 ^ p)) (num p l)) in
    let parts = append_parts (front ++ num q (l / 2 ^ p)) (num p l) text (zeros p) (length-num p l ∙ sym (length-zeros p)) (sym was_spread ∙ here) in
    ap spread (last_split words k (bit_or l x) e) ∙ spread_push (take k words) (bit_or l x)
    ∙ ap (λ (n : ℕ). front ++ num n (bit_or l x)) (sym qp)
    ∙ ap (λ (t : List Bool). front ++ t) (num_or q p l x lt parts.1)
    ∙ sym (append_assoc front (num q (l / 2 ^ p)) (num p x))
    ∙ ap (λ (t : List Bool). t ++ num p x) parts.0

front_len : (n word : ℕ) → n ≤ 64 → length (take n (num 64 word)) ≡ n
front_len n word le = length-take-le n (num 64 word) (omega (arith, length-num 64 word))

text_len : (words : List ℕ) (len n word : ℕ) → IsPacked words len → n ≤ 64 → length (text_of len words ++ take n (num 64 word)) ≡ len + n
text_len words len n word h le = omega (arith, length-append (text_of len words) (take n (num 64 word)), length-text words len h, front_len n word le)

pub push_nothing : (words : List ℕ) (len n word : ℕ) → IsPacked words len → n ≤ 0 → Holds words (len + n) (text_of len words ++ take n (num 64 word))
push_nothing words len n word h le =
    let z : n ≡ 0 = omega arith in
    let k : len + 0 ≡ len = omega arith in
    rw (z, k, append-nil (text_of len words)) (record { packed = h; spelled = refl })

pub push_aligned : (words : List ℕ) (len n word : ℕ) → IsPacked words len → len % 64 ≡ 0 → 0 < n → n ≤ 64 → IsFront n word → Holds (words ++ word ∷ []) (len + n) (text_of len words ++ take n (num 64 word))
push_aligned words len n word h at0 pos le front =
    let full : 64 * length words - len ≡ 0 = omega (arith, h.fits, h.tight) in
    let was : spread words ≡ text_of len words = rw full at h.clean ∙ append-nil (text_of len words) in
    holds_from (words ++ word ∷ []) (len + n) (64 - n) (text_of len words ++ take n (num 64 word)) (text_len words len n word h le) (omega arith)
    (spread_push words word ∙ ap (λ (t : List Bool). t ++ num 64 word) was ∙ ap (λ (t : List Bool). text_of len words ++ t) front.clean ∙ sym (append_assoc (text_of len words) (take n (num 64 word)) (zeros (64 - n))))

-- the room behind the bits
room : (words : List ℕ) (len off : ℕ) → IsPacked words len → off ≡ len % 64 → 0 < off → 64 * length words - len ≡ 64 - off
room words len off h e pos = omega (arith, h.fits, h.tight)

last_is : (words : List ℕ) (len off : ℕ) → IsPacked words len → off ≡ len % 64 → 0 < off → len / 64 + 1 ≡ length words
last_is words len off h e pos = omega (arith, h.fits, h.tight)

word_parts : (off p word : ℕ) → p + off ≡ 64 → num 64 word ≡ num p (word / 2 ^ off) ++ num off word
word_parts off p word e = ap (λ (n : ℕ). num n word) (sym e) ∙ num-split p off word

pub push_within : (words : List ℕ) (len n word off : ℕ) → IsPacked words len → off ≡ len % 64 → 0 < off → n ≤ 64 - off → word < 2 ^ 64 → IsFront n word
    → Holds (set words (len / 64) (bit_or (get_or words (len / 64) 0) (word / 2 ^ off))) (len + n) (text_of len words ++ take n (num 64 word))
push_within words len n word off h e pos le wlt front =
    let p = 64 - off in
    let po : p + off ≡ 64 = omega arith in
    let was : spread words ≡ text_of len words ++ zeros p = rw (room words len off h e pos) at h.clean in
    let xlt : word / 2 ^ off < 2 ^ p = shr_below word p off (rw po wlt) in
    let split : 64 - n ≡ (p - n) + off = omega arith in
    let b = take n (num 64 word) in
    let parts = append_parts (num p (word / 2 ^ off)) (num off word) (b ++ zeros (p - n)) (zeros off) (length-num off word ∙ sym (length-zeros off))
    (sym (word_parts off p word po) ∙ front.clean ∙ ap (λ (m : ℕ). b ++ zeros m) split ∙ ap (λ (t : List Bool). b ++ t) (sym (zeros-add (p - n) off)) ∙ sym (append_assoc b (zeros (p - n)) (zeros off))) in
    holds_from (set words (len / 64) (bit_or (get_or words (len / 64) 0) (word / 2 ^ off))) (len + n) (p - n) (text_of len words ++ b) (text_len words len n word h (omega arith)) (omega arith)
    (or_last words (len / 64) p (word / 2 ^ off) (text_of len words) (last_is words len off h e pos) (omega arith) xlt was
    ∙ ap (λ (t : List Bool). text_of len words ++ t) parts.0 ∙ sym (append_assoc (text_of len words) b (zeros (p - n))))

pub push_across : (words : List ℕ) (len n word off : ℕ) → IsPacked words len → off ≡ len % 64 → 0 < off → 64 - off < n → n ≤ 64 → word < 2 ^ 64 → IsFront n word
    → Holds (set (words ++ (word * 2 ^ (64 - off) % 2 ^ 64) ∷ []) (len / 64) (bit_or (get_or words (len / 64) 0) (word / 2 ^ off))) (len + n) (text_of len words ++ take n (num 64 word))
push_across words len n word off h e pos gt le wlt front =
    let p = 64 - off in
    let po : p + off ≡ 64 = omega arith in
    let op : off + p ≡ 64 = omega arith in
    let text = text_of len words in
    let b = take n (num 64 word) in
    let x = word / 2 ^ off in
    let over = word * 2 ^ p % 2 ^ 64 in
    let was : spread words ≡ text ++ zeros p = rw (room words len off h e pos) at h.clean in
    let xlt : word / 2 ^ off < 2 ^ p = shr_below word p off (rw po wlt) in
    let last = last_is words len off h e pos in
    let inside : len / 64 < length words = omega arith in
    let moved : num 64 over ≡ num off word ++ zeros p = rw op at (num_shl off p word) in
    let new_last = set words (len / 64) (bit_or (get_or words (len / 64) 0) x) in
    holds_from (set (words ++ over ∷ []) (len / 64) (bit_or (get_or words (len / 64) 0) x)) (len + n) (64 - n + p) (text ++ b) (text_len words len n word h le) (omega arith)
    (ap spread (set-append_left words (over ∷ []) (len / 64) (bit_or (get_or words (len / 64) 0) x) inside)
    ∙ spread_push new_last over
    ∙ ap (λ (t : List Bool). t ++ num 64 over) (or_last words (len / 64) p x text last (omega arith) xlt was)
    ∙ ap (λ (t : List Bool). (text ++ num p x) ++ t) moved
    ∙ append_assoc text (num p x) (num off word ++ zeros p)
    ∙ ap (λ (t : List Bool). text ++ t) (sym (append_assoc (num p x) (num off word) (zeros p)) ∙ ap (λ (t : List Bool). t ++ zeros p) (sym (word_parts off p word po) ∙ front.clean) ∙ append_assoc b (zeros (64 - n)) (zeros p) ∙ ap (λ (t : List Bool). b ++ t) (zeros-add (64 - n) p))
    ∙ sym (append_assoc text b (zeros (64 - n + p))))

-- ---- fronts

pub take_past : (a b : List Bool) (m n : ℕ) → length a ≡ m → take (m + n) (a ++ b) ≡ a ++ take n b
take_past [] b m n e = let z : m + n ≡ n = omega arith in rw z refl
take_past (x ∷ a) b m n e =
    let k : m + n ≡ suc (length a + n) = omega arith in
    rw k (ap (λ (t : List Bool). x ∷ t) (take_past a b (length a) n refl))

pub spread_split : (words : List ℕ) (k : ℕ) → k < length words → spread words ≡ spread (take k words) ++ (num 64 (get_or words k 0) ++ spread (drop (k + 1) words))
spread_split words k lt =
    ap spread (sym (take-append-drop k words) ∙ ap (λ (t : List ℕ). take k words ++ t) (drop_more words k 0 lt))
    ∙ spread-append (take k words) (get_or words k 0 ∷ drop (k + 1) words)
    ∙ ap (λ (t : List Bool). spread (take k words) ++ t) (spread-append (get_or words k 0 ∷ []) (drop (k + 1) words) ∙ ap (λ (t : List Bool). t ++ spread (drop (k + 1) words)) (spread-one (get_or words k 0)))

pub length_front : (words : List ℕ) (k : ℕ) → k ≤ length words → length (spread (take k words)) ≡ 64 * k
length_front words k le = omega (arith, length-spread (take k words), length-take-le k words le)

-- a text is its whole words, and a front of the next
pub text_split : (words : List ℕ) (len k u : ℕ) → len ≡ 64 * k + u → k < length words → u ≤ 64 → text_of len words ≡ spread (take k words) ++ take u (num 64 (get_or words k 0))
unfolding text_of
text_split words len k u e lt le =
    rw e (ap (λ (t : List Bool). take (64 * k + u) t) (spread_split words k lt)
    ∙ take_past (spread (take k words)) (num 64 (get_or words k 0) ++ spread (drop (k + 1) words)) (64 * k) u (length_front words k (omega arith))
    ∙ ap (λ (t : List Bool). spread (take k words) ++ t) (take-append-le u (num 64 (get_or words k 0)) (spread (drop (k + 1) words)) (omega (arith, length-num 64 (get_or words k 0)))))

pub text_whole : (words : List ℕ) (len k : ℕ) → len ≡ 64 * k → k ≤ length words → text_of len words ≡ spread (take k words)
unfolding text_of
text_whole words len k e le =
    rw e (ap (λ (t : List Bool). take (64 * k) t) (ap spread (sym (take-append-drop k words)) ∙ spread-append (take k words) (drop k words))
    ∙ take_at (spread (take k words)) (spread (drop k words)) (64 * k) (length_front words k le))

pub cut_whole : (words : List ℕ) (len : ℕ) → len ≤ 64 * length words → len % 64 ≡ 0 → Holds (take (len / 64) words) len (text_of len words)
cut_whole words len le at0 =
    let e : len ≡ 64 * (len / 64) = omega arith in
    let within : len / 64 ≤ length words = omega arith in
    holds_from (take (len / 64) words) len 0 (text_of len words) (ap length (text_whole words len (len / 64) e within) ∙ length_front words (len / 64) within ∙ sym e) (omega arith)
    (sym (append-nil (spread (take (len / 64) words))) ∙ ap (λ (t : List Bool). t ++ []) (sym (text_whole words len (len / 64) e within)))

pub cut_part : (words : List ℕ) (len u y : ℕ) → len ≤ 64 * length words → u ≡ len % 64 → 0 < u → num 64 y ≡ take u (num 64 (get_or words (len / 64) 0)) ++ zeros (64 - u)
    → Holds (set (take (len / 64 + 1) words) (len / 64) y) len (text_of len words)
cut_part words len u y le ue pos ye =
    let k = len / 64 in
    let e : len ≡ 64 * (len / 64) + u = omega arith in
    let lt : len / 64 < length words = omega arith in
    let one : len / 64 + 1 ≡ length (take (len / 64 + 1) words) = sym (length-take-le (len / 64 + 1) words (omega arith)) in
    let is = text_split words len k u e lt (omega arith) in
    let front : take k (take (k + 1) words) ≡ take k words = take-take k (k + 1) words (omega arith) in
    holds_from (set (take (k + 1) words) k y) len (64 - u) (text_of len words)
    (ap length is ∙ omega (arith, length-append (spread (take k words)) (take u (num 64 (get_or words k 0))), length_front words k (omega arith), front_len u (get_or words k 0) (omega arith)))
    (omega arith)
    (ap spread (last_split (take (k + 1) words) k y one ∙ ap (λ (t : List ℕ). t ++ y ∷ []) front)
    ∙ spread_push (take k words) y
    ∙ ap (λ (t : List Bool). spread (take k words) ++ t) ye
    ∙ sym (append_assoc (spread (take k words)) (take u (num 64 (get_or words k 0))) (zeros (64 - u)))
    ∙ ap (λ (t : List Bool). t ++ zeros (64 - u)) (sym is))

pub front_word : (word n : ℕ) → n ≤ 64 → num 64 (word / 2 ^ (64 - n) * 2 ^ (64 - n) % 2 ^ 64) ≡ take n (num 64 word) ++ zeros (64 - n)
front_word word n le =
    let p : n + (64 - n) ≡ 64 = omega arith in
    let is : num 64 word ≡ num n (word / 2 ^ (64 - n)) ++ num (64 - n) word = ap (λ (m : ℕ). num m word) (sym p) ∙ num-split n (64 - n) word in
    let top : take n (num 64 word) ≡ num n (word / 2 ^ (64 - n)) = ap (λ (t : List Bool). take n t) is ∙ take_at (num n (word / 2 ^ (64 - n))) (num (64 - n) word) n (length-num n (word / 2 ^ (64 - n))) in
    rw p at (num_shl n (64 - n) (word / 2 ^ (64 - n))) ∙ ap (λ (t : List Bool). t ++ zeros (64 - n)) (sym top)

-- ---- as the code reads and writes the last word

pub pushed_within : (words new : List ℕ) (len n word last off : ℕ) → new ≡ words → last ≡ get_or new (len / 64) last → IsPacked words len → off ≡ len % 64 → 0 < off → n ≤ 64 - off → word < 2 ^ 64 → IsFront n word
    → Holds (set new (len / 64) (bit_or last (word / 2 ^ off))) (len + n) (text_of len words ++ take n (num 64 word))
pushed_within words new len n word last off is read h e pos le wlt front =
    let inside : len / 64 < length words = omega (arith, last_is words len off h e pos) in
    let known : last ≡ get_or words (len / 64) 0 = get_or_read words (len / 64) last inside (read ∙ ap (λ (t : List ℕ). get_or t (len / 64) last) is) 0 in
    rw (is, known) (push_within words len n word off h e pos le wlt front)

pub pushed_across : (words new : List ℕ) (len n word last off : ℕ) → new ≡ words ++ (word * 2 ^ (64 - off) % 2 ^ 64) ∷ [] → last ≡ get_or new (len / 64) last → IsPacked words len → off ≡ len % 64 → 0 < off → 64 - off < n → n ≤ 64 → word < 2 ^ 64 → IsFront n word
    → Holds (set new (len / 64) (bit_or last (word / 2 ^ off))) (len + n) (text_of len words ++ take n (num 64 word))
pushed_across words new len n word last off is read h e pos gt le wlt front =
    let inside : len / 64 < length words = omega (arith, last_is words len off h e pos) in
    let over = word * 2 ^ (64 - off) % 2 ^ 64 in
    let known : last ≡ get_or words (len / 64) 0 = get_or_read words (len / 64) last inside (read ∙ ap (λ (t : List ℕ). get_or t (len / 64) last) is ∙ get_or_append_left words (over ∷ []) last (len / 64) inside) 0 in
    rw (is, known) (push_across words len n word off h e pos gt le wlt front)

pub cut_read : (words new : List ℕ) (len u last y : ℕ) → new ≡ take (len / 64 + 1) words → last ≡ get_or new (len / 64) last → len ≤ 64 * length words → u ≡ len % 64 → 0 < u → num 64 y ≡ take u (num 64 last) ++ zeros (64 - u)
    → Holds (set new (len / 64) y) len (text_of len words)
cut_read words new len u last y is read le ue pos ye =
    let inside : len / 64 < length words = omega arith in
    let one : len / 64 < len / 64 + 1 = omega arith in
    let known : last ≡ get_or words (len / 64) 0 = get_or_read words (len / 64) last inside (read ∙ ap (λ (t : List ℕ). get_or t (len / 64) last) is ∙ get_or-take (len / 64 + 1) words (len / 64) last one) 0 in
    rw is (cut_part words len u y le ue pos (rw (← known) ye))
