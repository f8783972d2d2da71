-- Words that are copied behind a text, one after another.
use Rattle.std.proofs.Common.{◌≡◌, ℕ, ◌+◌, ◌-◌, ◌*◌, ◌/◌, ◌%◌, ◌^◌, ◌<◌, ◌≤◌, Bool, List, [], ◌++◌, length, get_or, take, drop, refl, sym, ap, ◌∙◌, append_assoc, arith}
use Rattle.std.proofs.lemmas.List.{append-nil, take_at, drop_at, take-take, drop-take, drop-drop, take-append-drop, length-take-le, take_all, drop_all, append_cancel_left}
use Rattle.layout.specs.Text.{num, bits_of}
use Rattle.bit_core.specs.Words.{ShowsFrom}
use Rattle.bit_core.specs.Words.{zeros, spread, text_of, IsPacked, Holds, Reaches, IsFront}
use Rattle.layout.proofs.TextLemmas.{length-num, length-bits_of}
use Rattle.bit_core.proofs.WordLemmas.{num_shl}
use Rattle.bit_core.proofs.PackLemmas.{length-text, spread_split, text_split, length_front}
use Rattle.std.specs.Prelude.{Result, Ok, Err, OnErr}
use Rattle.bit_core.proofs.PeekLemmas.{shown}

pub take-add : (m n : ℕ) (xs : List Bool) → take (m + n) xs ≡ take m xs ++ take n (drop m xs)
take-add m n xs =
    let le : m ≤ m + n = omega arith in
    sym (take-append-drop m (take (m + n) xs)) ∙ rw (take-take m (m + n) xs le, drop-take m n xs) refl

-- nothing is copied yet
pub copied_none : (words : List ℕ) (len : ℕ) (src : List Bool) → IsPacked words len → Holds words (len + 0) (text_of len words ++ take 0 src)
copied_none words len src h =
    let k : len + 0 ≡ len = omega arith in
    rw (k, append-nil (text_of len words)) (record { packed = h; spelled = refl })

-- n more bits
pub copied_more : (words new : List ℕ) (len m n word : ℕ) (text src : List Bool) → Holds words (len + m) (text ++ take m src) → take n (num 64 word) ≡ take n (drop m src)
    → Holds new (len + m + n) (text_of (len + m) words ++ take n (num 64 word)) → Holds new (len + (m + n)) (text ++ take (m + n) src)
copied_more words new len m n word text src h e now =
    let k : len + (m + n) ≡ len + m + n = omega arith in
    let t : text ++ take (m + n) src ≡ text_of (len + m) words ++ take n (num 64 word) =
    ap (λ (u : List Bool). text ++ u) (take-add m n src) ∙ sym (append_assoc text (take m src) (take n (drop m src)))
    ∙ ap (λ (u : List Bool). u ++ take n (drop m src)) (sym h.spelled) ∙ ap (λ (u : List Bool). text_of (len + m) words ++ u) (sym e) in
    rw (k, t) now

-- what was held stays
pub reaches : (words : List ℕ) (len m : ℕ) (text more : List Bool) → length text ≡ len → Holds words (len + m) (text ++ more) → Reaches words len text
unfolding text_of
reaches words len m text more e h =
    let le : len ≤ len + m = omega arith in
    record {
      fits = omega (arith, h.packed.fits);
      spelled = sym (take-take len (len + m) (spread words) le) ∙ ap (λ (t : List Bool). take len t) h.spelled ∙ take_at text more len e;
    }

pub reaches_old : (old words : List ℕ) (len m : ℕ) (more : List Bool) → IsPacked old len → Holds words (len + m) (text_of len old ++ more) → Reaches words len (text_of len old)
reaches_old old words len m more p h = reaches words len m (text_of len old) more (length-text old len p) h

pub all_front : (word : ℕ) → IsFront 64 word
all_front word =
    let le : length (num 64 word) ≤ 64 = omega (arith, length-num 64 word) in
    record { clean = sym (append-nil (take 64 (num 64 word)) ∙ take_all 64 (num 64 word) le) }

pub front_is : (n r p : ℕ) → n ≤ 64 → num 64 r ≡ take n (num 64 p) ++ zeros (64 - n) → IsFront n r × (take n (num 64 r) ≡ take n (num 64 p))
front_is n r p le e =
    let len : length (take n (num 64 p)) ≡ n = length-take-le n (num 64 p) (omega (arith, length-num 64 p)) in
    let same : take n (num 64 r) ≡ take n (num 64 p) = ap (λ (t : List Bool). take n t) e ∙ take_at (take n (num 64 p)) (zeros (64 - n)) n len in
    (record { clean = e ∙ ap (λ (t : List Bool). t ++ zeros (64 - n)) (sym same) }, same)

-- a number of n bits at the head of a word
pub head_word : (n v : ℕ) → n ≤ 64 → IsFront n (v * 2 ^ (64 - n) % 2 ^ 64) × (take n (num 64 (v * 2 ^ (64 - n) % 2 ^ 64)) ≡ num n v)
head_word n v le =
    let k : n + (64 - n) ≡ 64 = omega arith in
    let is : num 64 (v * 2 ^ (64 - n) % 2 ^ 64) ≡ num n v ++ zeros (64 - n) = rw k at (num_shl n (64 - n) v) in
    let same : take n (num 64 (v * 2 ^ (64 - n) % 2 ^ 64)) ≡ num n v = ap (λ (t : List Bool). take n t) is ∙ take_at (num n v) (zeros (64 - n)) n (length-num n v) in
    (record { clean = is ∙ ap (λ (t : List Bool). t ++ zeros (64 - n)) (sym same) }, same)

-- a word of words
pub word_at : (words : List ℕ) (k : ℕ) → k < length words → num 64 (get_or words k 0) ≡ take 64 (drop (64 * k) (spread words))
word_at words k lt =
    let l = get_or words k 0 in
    let past : drop (64 * k) (spread words) ≡ num 64 l ++ spread (drop (k + 1) words) =
    ap (λ (t : List Bool). drop (64 * k) t) (spread_split words k lt) ∙ drop_at (spread (take k words)) (num 64 l ++ spread (drop (k + 1) words)) (64 * k) (length_front words k (omega arith)) in
    sym (ap (λ (t : List Bool). take 64 t) past ∙ take_at (num 64 l) (spread (drop (k + 1) words)) 64 (length-num 64 l))

pub word_part : (words : List ℕ) (k n : ℕ) → k < length words → n ≤ 64 → take n (num 64 (get_or words k 0)) ≡ take n (drop (64 * k) (spread words))
word_part words k n lt le = ap (λ (t : List Bool). take n t) (word_at words k lt) ∙ take-take n 64 (drop (64 * k) (spread words)) le

pub spread_nil : spread [] ≡ []
unfolding spread
spread_nil = refl

-- the last word has zeros behind its bits
pub last_front : (words : List ℕ) (len k n : ℕ) → IsPacked words len → len ≡ 64 * k + n → 0 < n → n < 64 → IsFront n (get_or words k 0)
last_front words len k n h e pos lt =
    let one : k + 1 ≡ length words = omega (arith, h.fits, h.tight) in
    let inside : k < length words = omega arith in
    let rest : 64 * length words - len ≡ 64 - n = omega arith in
    let l = get_or words k 0 in
    let split : spread words ≡ spread (take k words) ++ num 64 l =
    spread_split words k inside ∙ ap (λ (t : List Bool). spread (take k words) ++ t) (ap (λ (t : List ℕ). num 64 l ++ spread t) (drop_all (k + 1) words (omega arith)) ∙ ap (λ (t : List Bool). num 64 l ++ t) spread_nil ∙ append-nil (num 64 l)) in
    let clean : spread words ≡ spread (take k words) ++ (take n (num 64 l) ++ zeros (64 - n)) =
    rw (rest, text_split words len k n e inside (omega arith)) at h.clean ∙ append_assoc (spread (take k words)) (take n (num 64 l)) (zeros (64 - n)) in
    record { clean = append_cancel_left (spread (take k words)) (num 64 l) (take n (num 64 l) ++ zeros (64 - n)) (sym split ∙ clean) }

pub copied_step : (words new : List ℕ) (len i word : ℕ) (text src : List Bool) → Holds words (len + 64 * i) (text ++ take (64 * i) src) → take 64 (num 64 word) ≡ take 64 (drop (64 * i) src)
    → Holds new (len + 64 * i + 64) (text_of (len + 64 * i) words ++ take 64 (num 64 word)) → Holds new (len + 64 * (i + 1)) (text ++ take (64 * (i + 1)) src)
copied_step words new len i word text src h e now =
    let k : 64 * (i + 1) ≡ 64 * i + 64 = omega arith in
    rw k (copied_more words new len (64 * i) 64 word text src h e now)

pub copied_whole : (words : List ℕ) (len i n : ℕ) (text src : List Bool) → n / 64 ≤ i → i ≤ n / 64 → n % 64 ≤ 0 → Holds words (len + 64 * i) (text ++ take (64 * i) src) → Holds words (len + n) (text ++ take n src)
copied_whole words len i n text src ge le z h = let k : 64 * i ≡ n = omega arith in rw k at h

pub copied_rest : (words new : List ℕ) (len i n word : ℕ) (text src : List Bool) → n / 64 ≤ i → i ≤ n / 64 → Holds words (len + 64 * i) (text ++ take (64 * i) src) → take (n % 64) (num 64 word) ≡ take (n % 64) (drop (64 * (n / 64)) src)
    → Holds new (len + 64 * (n / 64) + n % 64) (text_of (len + 64 * (n / 64)) words ++ take (n % 64) (num 64 word)) → Holds new (len + n) (text ++ take n src)
copied_rest words new len i n word text src ge le h e now =
    let ie : i ≡ n / 64 = omega arith in
    let k : n ≡ 64 * (n / 64) + n % 64 = omega arith in
    let r = copied_more words new len (64 * (n / 64)) (n % 64) word text src (rw ie at h) e now in
    rw (← k) at r

pub shown_from : (bytes : List ℕ) (at m w n : ℕ) → n ≤ 64 → at + m + n ≤ 8 * length bytes → ShowsFrom 64 w (bits_of bytes) (at + m) → take n (num 64 w) ≡ take n (drop m (drop at (bits_of bytes)))
shown_from bytes at m w n le inside h = shown (bits_of bytes) (at + m) w n le (omega (arith, length-bits_of bytes)) h ∙ ap (λ (t : List Bool). take n t) (sym (drop-drop m at (bits_of bytes)))

pub word_read : (words : List ℕ) (k n w : ℕ) → w ≡ get_or words k 0 → k < length words → n ≤ 64 → take n (num 64 w) ≡ take n (drop (64 * k) (spread words))
word_read words k n w e lt le = rw e (word_part words k n lt le)

pub on_err_known : {T E P : Type 0} (r : Result T E) → P → OnErr r P
on_err_known (Ok x) p = tt
on_err_known (Err e) p = p

pub stopped : {T E : Type 0} (r : Result T E) (old words new : List ℕ) (len m : ℕ) (more : List Bool) → new ≡ words → IsPacked old len → Holds words (len + m) (text_of len old ++ more) → OnErr r (Reaches new len (text_of len old))
stopped r old words new len m more e p h = on_err_known {P = Reaches new len (text_of len old)} r (rw e (reaches_old old words len m more p h))
