-- The places of a word's ones, by counts of ones under masks.
use Rattle.std.proofs.Common.{◌≡◌, ℕ, zero, suc, ◌+◌, ◌*◌, ◌/◌, ◌%◌, ◌^◌, ◌<◌, ◌≤◌, List, [], ◌∷◌, length, refl, sym, ap, ◌∙◌, arith, count_ones, bit_and, replicate, eqb}
use lib.Count.{ones_step}
use Rattle.std.proofs.lemmas.Nat.{and_shr, and_mod, and_le_l, and_le_r}
use Rattle.std.proofs.Math.Nat.{mul-le-mul_left}
use Rattle.layout.specs.Text.{num, is_odd}
use Rattle.layout.proofs.TextLemmas.{length-num}
use Rattle.core_iface.specs.Folding.{places}
use Rattle.core_iface.proofs.Places.{places-append}

-- the sum of the weights at the ones of a number, the lowest bit first
weigh : List ℕ → ℕ → ℕ
weigh [] w = 0
weigh (a ∷ xs) w = a * (w % 2) + weigh xs (w / 2)

-- the n lowest bits of a number, the lowest first
digits : ℕ → ℕ → List ℕ
digits zero m = []
digits (suc n) m = (m % 2) ∷ digits n (m / 2)

-- the places of n bits, the last one first
down : ℕ → ℕ → List ℕ
down p zero = []
down p (suc n) = (p + n) ∷ down p n

add : List ℕ → List ℕ → List ℕ
add [] ys = []
add (a ∷ xs) [] = []
add (a ∷ xs) (b ∷ ys) = (a + b) ∷ add xs ys

times : ℕ → List ℕ → List ℕ
times c [] = []
times c (a ∷ xs) = (c * a) ∷ times c xs

weigh-add : (xs ys : List ℕ) (w : ℕ) → length xs ≡ length ys → weigh (add xs ys) w ≡ weigh xs w + weigh ys w
unfolding weigh add
weigh-add [] [] w e = refl
weigh-add [] (b ∷ ys) w e = absurd (omega (arith, e))
weigh-add (a ∷ xs) [] w e = absurd (omega (arith, e))
weigh-add (a ∷ xs) (b ∷ ys) w e = omega (arith, weigh-add xs ys (w / 2) (omega (arith, e)))

weigh-times : (c : ℕ) (xs : List ℕ) (w : ℕ) → weigh (times c xs) w ≡ c * weigh xs w
unfolding weigh times
weigh-times c [] w = omega arith
weigh-times c (a ∷ xs) w = omega (arith, weigh-times c xs (w / 2))

low_and : (a b : ℕ) → a < 2 → b < 2 → bit_and a b ≡ b * a
low_and zero zero p q = refl
low_and zero (suc zero) p q = refl
low_and (suc zero) zero p q = refl
low_and (suc zero) (suc zero) p q = refl
low_and zero (suc (suc b)) p q = absurd (omega (arith, q))
low_and (suc zero) (suc (suc b)) p q = absurd (omega (arith, q))
low_and (suc (suc a)) b p q = absurd (omega (arith, p))

-- the ones under a mask
masked : (n m w : ℕ) → m < 2 ^ n → count_ones (bit_and w m) ≡ weigh (digits n m) w
unfolding weigh digits lib.Count.ones
masked zero m w lt =
    let none : bit_and w m ≡ 0 = omega (arith, and_le_r w m) in
    rw none refl
masked (suc n) m w lt =
    let p : 2 ^ suc n ≡ 2 ^ n * 2 = omega arith in
    let half : m / 2 < 2 ^ n = omega arith in
    let low : bit_and w m % 2 ≡ m % 2 * (w % 2) = and_mod w m 1 ∙ low_and (w % 2) (m % 2) (omega arith) (omega arith) in
    let high : bit_and w m / 2 ≡ bit_and (w / 2) (m / 2) = and_shr w m 1 in
    ones_step (bit_and w m) ∙ rw (low, high, masked n (m / 2) (w / 2) half) refl

all_ones : (n w : ℕ) → w < 2 ^ n → count_ones w ≡ weigh (replicate n 1) w
unfolding weigh lib.Count.ones
all_ones zero w lt = let none : w ≡ 0 = omega arith in rw none refl
all_ones (suc n) w lt =
    let p : 2 ^ suc n ≡ 2 ^ n * 2 = omega arith in
    let half : w / 2 < 2 ^ n = omega arith in
    ones_step w ∙ rw (all_ones n (w / 2) half) (omega arith)

odd_place : (k w : ℕ) → places k (is_odd w ∷ []) ≡ k * (w % 2)
odd_place k w = by (w % 2) (omega arith)
  where
    by : (d : ℕ) → d < 2 → places k (eqb d 1 ∷ []) ≡ k * d
    by zero lt = omega arith
    by (suc zero) lt = omega arith
    by (suc (suc d)) lt = absurd (omega arith)

placed : (p n w : ℕ) → places p (num n w) ≡ weigh (down p n) w
unfolding num weigh down
placed p zero w = refl
placed p (suc n) w =
    let long : p + length (num n (w / 2)) ≡ p + n = omega (arith, length-num n (w / 2)) in
    places-append p (num n (w / 2)) (is_odd w ∷ [])
    ∙ rw (long, odd_place (p + n) w, placed p n (w / 2)) (omega arith)

-- places from p on are xs many more
raised : (p n w : ℕ) → weigh (down p n) w ≡ p * weigh (replicate n 1) w + weigh (down 0 n) w
unfolding weigh down
raised p zero w = omega arith
raised p (suc n) w = omega (arith, raised p n (w / 2))

abbrev masks : List ℕ
masks = add (digits 64 6148914691236517205) (add (times 2 (digits 64 3689348814741910323)) (add (times 4 (digits 64 1085102592571150095)) (add (times 8 (digits 64 71777214294589695)) (add (times 16 (digits 64 281470681808895)) (times 32 (digits 64 4294967295))))))

spread_out : down 0 64 ≡ masks
unfolding down digits add times
spread_out = refl

length-digits : (n m : ℕ) → length (digits n m) ≡ n
unfolding digits
length-digits zero m = refl
length-digits (suc n) m = omega (arith, length-digits n (m / 2))

length-times : (c : ℕ) (xs : List ℕ) → length (times c xs) ≡ length xs
unfolding times
length-times c [] = refl
length-times c (a ∷ xs) = omega (arith, length-times c xs)

length-add : (xs ys : List ℕ) → length xs ≡ length ys → length (add xs ys) ≡ length xs
unfolding add
length-add [] ys e = refl
length-add (a ∷ xs) [] e = absurd (omega (arith, e))
length-add (a ∷ xs) (b ∷ ys) e = omega (arith, length-add xs ys (omega (arith, e)))

more : (c : ℕ) (a rest : List ℕ) (w r n : ℕ) → length a ≡ n → (length rest ≡ n) × (weigh rest w ≡ r) → (length (add (times c a) rest) ≡ n) × (weigh (add (times c a) rest) w ≡ c * weigh a w + r)
more c a rest w r n la h =
    let lt : length (times c a) ≡ n = length-times c a ∙ la in
    (length-add (times c a) rest (lt ∙ sym h.0) ∙ lt, weigh-add (times c a) rest w (lt ∙ sym h.0) ∙ rw (weigh-times c a w, h.1) refl)

six : (a b c d e f : List ℕ) (w n : ℕ) → length a ≡ n → length b ≡ n → length c ≡ n → length d ≡ n → length e ≡ n → length f ≡ n
    → weigh (add a (add (times 2 b) (add (times 4 c) (add (times 8 d) (add (times 16 e) (times 32 f)))))) w ≡ weigh a w + (2 * weigh b w + (4 * weigh c w + (8 * weigh d w + (16 * weigh e w + 32 * weigh f w))))
six a b c d e f w n la lb lc ld le lf =
    let s5 : (length (times 32 f) ≡ n) × (weigh (times 32 f) w ≡ 32 * weigh f w) = (length-times 32 f ∙ lf, weigh-times 32 f w) in
    let s4 = more 16 e (times 32 f) w _ n le s5 in
    let s3 = more 8 d _ w _ n ld s4 in
    let s2 = more 4 c _ w _ n lc s3 in
    let s1 = more 2 b _ w _ n lb s2 in
    weigh-add a _ w (la ∙ sym s1.0) ∙ ap (λ (r : ℕ). weigh a w + r) s1.1

counted : (w : ℕ) → weigh masks w ≡ count_ones (bit_and w 6148914691236517205) + (2 * count_ones (bit_and w 3689348814741910323) + (4 * count_ones (bit_and w 1085102592571150095)
    + (8 * count_ones (bit_and w 71777214294589695) + (16 * count_ones (bit_and w 281470681808895) + 32 * count_ones (bit_and w 4294967295)))))
counted w =
    let long = λ (m : ℕ). length-digits 64 m in
    six _ _ _ _ _ _ w 64 (long 6148914691236517205) (long 3689348814741910323) (long 1085102592571150095) (long 71777214294589695) (long 281470681808895) (long 4294967295)
    ∙ rw (masked 64 6148914691236517205 w (omega arith), masked 64 3689348814741910323 w (omega arith), masked 64 1085102592571150095 w (omega arith), masked 64 71777214294589695 w (omega arith), masked 64 281470681808895 w (omega arith), masked 64 4294967295 w (omega arith)) refl

pub word_places : (p w : ℕ) → w < 2 ^ 64 → places p (num 64 w) ≡ p * count_ones w
    + (count_ones (bit_and w 6148914691236517205) + (2 * count_ones (bit_and w 3689348814741910323) + (4 * count_ones (bit_and w 1085102592571150095)
    + (8 * count_ones (bit_and w 71777214294589695) + (16 * count_ones (bit_and w 281470681808895) + 32 * count_ones (bit_and w 4294967295))))))
word_places p w lt =
    placed p 64 w ∙ raised p 64 w
    ∙ ap (λ (n : ℕ). p * n + weigh (down 0 64) w) (sym (all_ones 64 w lt))
    ∙ ap (λ (l : List ℕ). p * count_ones w + weigh l w) spread_out
    ∙ ap (λ (n : ℕ). p * count_ones w + n) (counted w)

few : (n w : ℕ) → w < 2 ^ n → count_ones w ≤ n
unfolding lib.Count.ones
few zero w lt = let none : w ≡ 0 = omega arith in rw none (omega arith)
few (suc n) w lt =
    let p : 2 ^ suc n ≡ 2 ^ n * 2 = omega arith in
    let half : w / 2 < 2 ^ n = omega arith in
    omega (arith, ones_step w, few n (w / 2) half)

few_masked : (w m : ℕ) → w < 2 ^ 64 → count_ones (bit_and w m) ≤ 64
few_masked w m lt = few 64 (bit_and w m) (omega (arith, and_le_l w m))

pub within_small : (w : ℕ) → w < 2 ^ 64 → count_ones (bit_and w 6148914691236517205) + (2 * count_ones (bit_and w 3689348814741910323) + (4 * count_ones (bit_and w 1085102592571150095)
    + (8 * count_ones (bit_and w 71777214294589695) + (16 * count_ones (bit_and w 281470681808895) + 32 * count_ones (bit_and w 4294967295))))) ≤ 4032
within_small w lt = omega (arith, few_masked w 6148914691236517205 lt, few_masked w 3689348814741910323 lt, few_masked w 1085102592571150095 lt, few_masked w 71777214294589695 lt, few_masked w 281470681808895 lt, few_masked w 4294967295 lt)

pub ones_small : (p w : ℕ) → p ≤ 32768 → w < 2 ^ 64 → p * count_ones w ≤ 2097152
ones_small p w le lt =
    let most : p * count_ones w ≤ p * 64 = mul-le-mul_left p (few 64 w lt) in
    omega arith
