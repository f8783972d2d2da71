-- The places of ones, part by part.
use Rattle.std.proofs.Common.{◌≡◌, ℕ, zero, suc, ◌+◌, ◌*◌, ◌/◌, ◌%◌, ◌<◌, ◌≤◌, Bool, true, false, List, [], ◌∷◌, ◌++◌, length, take, drop, refl, sym, ap, ◌∙◌, arith}
use Rattle.std.proofs.lemmas.List.{length-append, length-take-le, take_all, take-append-drop, drop-take, take-take, length-replicate}
use Rattle.layout.specs.Text.{num, value_after}
use Rattle.layout.proofs.TextLemmas.{num-value_after}
use Rattle.bit_core.specs.Words.{zeros}
use Rattle.core_iface.specs.Folding.{places}

-- how many ones there are
abbrev pub ones : List Bool → ℕ
ones [] = 0
ones (true ∷ bs) = 1 + ones bs
ones (false ∷ bs) = ones bs

-- the sum where each place is q more
pub places-add : (p q : ℕ) (bits : List Bool) → places (p + q) bits ≡ places p bits + q * ones bits
places-add p q [] = omega arith
places-add p q (true ∷ bs) =
    let k : p + q + 1 ≡ p + 1 + q = omega arith in
    rw k (omega (arith, places-add (p + 1) q bs))
places-add p q (false ∷ bs) =
    let k : p + q + 1 ≡ p + 1 + q = omega arith in
    rw k (omega (arith, places-add (p + 1) q bs))

pub places-append : (k : ℕ) (xs ys : List Bool) → places k (xs ++ ys) ≡ places k xs + places (k + length xs) ys
places-append k [] ys =
    let e : k + 0 ≡ k = omega arith in
    omega (arith, ap (λ (n : ℕ). places n ys) e)
places-append k (true ∷ xs) ys =
    let e : k + suc (length xs) ≡ k + 1 + length xs = omega arith in
    rw e (omega (arith, places-append (k + 1) xs ys))
places-append k (false ∷ xs) ys =
    let e : k + suc (length xs) ≡ k + 1 + length xs = omega arith in
    rw e (omega (arith, places-append (k + 1) xs ys))

-- ---- bits, word by word

zeros_places : (k n m : ℕ) → places k (take n (zeros m)) ≡ 0
zeros_places k zero m = refl
zeros_places k (suc n) zero = refl
zeros_places k (suc n) (suc m) = omega (arith, zeros_places (k + 1) n m)

-- zeros behind bits add nothing
padded_places : (k n m : ℕ) (xs : List Bool) → places k (take n (xs ++ zeros m)) ≡ places k (take n xs)
padded_places k zero m xs = refl
padded_places k (suc n) m [] = zeros_places k (suc n) m
padded_places k (suc n) m (true ∷ xs) = ap (λ (r : ℕ). k + r) (padded_places (k + 1) n m xs)
padded_places k (suc n) m (false ∷ xs) = omega (arith, padded_places (k + 1) n m xs)

-- a place counts as one that is less by a multiple of 32768
place_rem : (i : ℕ) (bits : List Bool) → places (64 * i + 1) bits % 32768 ≡ places (i % 512 * 64 + 1) bits % 32768
place_rem i bits =
    let e : 64 * i + 1 ≡ i % 512 * 64 + 1 + 32768 * (i / 512) = omega arith in
    rw e (rw (places-add (i % 512 * 64 + 1) (32768 * (i / 512)) bits) (rem (places (i % 512 * 64 + 1) bits) (i / 512) (ones bits)))
  where
    rem : (a q n : ℕ) → (a + 32768 * q * n) % 32768 ≡ a % 32768
    rem a q n = let m : 32768 * q * n ≡ 32768 * (q * n) = omega arith in rw m (omega arith)

word_bits : (t : List Bool) → length t ≡ 64 → num 64 (value_after 0 t) ≡ t
unfolding num
word_bits t long =
    let e : 0 + length t ≡ 64 = omega arith in
    rw e at (num-value_after 0 0 t)

take-add : (m n : ℕ) (xs : List Bool) → take (m + n) xs ≡ take m xs ++ take n (drop m xs)
take-add m n xs =
    let le : m ≤ m + n = omega arith in
    sym (take-append-drop m (take (m + n) xs)) ∙ rw (take-take m (m + n) xs le, drop-take m n xs) refl

more_places : (bits : List Bool) (m n : ℕ) → m ≤ length bits → places 1 (take (m + n) bits) ≡ places 1 (take m bits) + places (m + 1) (take n (drop m bits))
more_places bits m n le =
    let long : 1 + length (take m bits) ≡ m + 1 = omega (arith, length-take-le m bits le) in
    rw take-add (places-append 1 (take m bits) (take n (drop m bits)) ∙ ap (λ (k : ℕ). places 1 (take m bits) + places k (take n (drop m bits))) long)

padded_length : (xs : List Bool) (n : ℕ) → length (take n (xs ++ zeros n)) ≡ n
padded_length xs n = length-take-le n (xs ++ zeros n) (omega (arith, length-append xs (zeros n), length-replicate n false))

sum_rem : (sum part all so_far : ℕ) (here there : ℕ) → sum ≡ so_far % 32768 → part ≡ here → here % 32768 ≡ there % 32768 → all ≡ so_far + there → (sum + part) % 32768 ≡ all % 32768
sum_rem sum part all so_far here there p q r e = omega arith

pub next_word : (bits : List Bool) (i w sum part : ℕ) → 64 * i < length bits → sum ≡ places 1 (take (64 * i) bits) % 32768 → w ≡ value_after 0 (take 64 (drop (64 * i) bits ++ zeros 64)) → part ≡ places (i % 512 * 64 + 1) (num 64 w)
    → (sum + part) % 32768 ≡ places 1 (take (64 * (i + 1)) bits) % 32768
next_word bits i w sum part lt so_far is here =
    let k : 64 * (i + 1) ≡ 64 * i + 64 = omega arith in
    let spelled : num 64 w ≡ take 64 (drop (64 * i) bits ++ zeros 64) = ap (num 64) is ∙ word_bits (take 64 (drop (64 * i) bits ++ zeros 64)) (padded_length (drop (64 * i) bits) 64) in
    let same : part ≡ places (i % 512 * 64 + 1) (take 64 (drop (64 * i) bits)) = here ∙ ap (places (i % 512 * 64 + 1)) spelled ∙ padded_places (i % 512 * 64 + 1) 64 64 (drop (64 * i) bits) in
    rw k (sum_rem sum part (places 1 (take (64 * i + 64) bits)) (places 1 (take (64 * i) bits)) (places (i % 512 * 64 + 1) (take 64 (drop (64 * i) bits))) (places (64 * i + 1) (take 64 (drop (64 * i) bits)))
    so_far same (sym (place_rem i (take 64 (drop (64 * i) bits)))) (more_places bits (64 * i) 64 (omega arith)))

pub all_words : (bits : List Bool) (n : ℕ) → length bits ≤ 64 * n → take (64 * n) bits ≡ bits
all_words bits n le = take_all (64 * n) bits le
