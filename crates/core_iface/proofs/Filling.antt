-- Lists that are filled in place.
use Rattle.std.proofs.Common.{◌≡◌, ℕ, ℤ, ◌+◌, ◌*◌, ◌/◌, ◌%◌, ◌<◌, List, [], ◌∷◌, ◌++◌, map, length, get_or, take, set, refl, sym, ap, ◌∙◌, append_assoc, add-one, arith}
use Rattle.std.proofs.lemmas.List.{take_more_set, take_more, length-set, map-append, append-nil}
use Rattle.std.proofs.lemmas.List.Concat.{flat_map-append}
use Rattle.std.specs.List.{flat_map}
use Rattle.std.proofs.lemmas.Nat.{mul-mod}
use Rattle.core_iface.specs.Folding.{sample, below, ramp}
use Rattle.std.specs.Int.{w16, cast_unsigned}
use Rattle.core_iface.specs.Samples.{sample_bytes, sample_bytes-append}

-- two bytes more
pub next_sample : (out : List ℕ) (samples : List ℤ) (i x lo hi : ℕ) (d : ℤ) → i < length samples → length out ≡ 2 * length samples → take (2 * i) out ≡ sample_bytes (take i samples)
    → x ≡ cast_unsigned w16 (get_or samples i d) → lo ≡ x % 256 → hi ≡ x / 256 → take (2 * (i + 1)) (set (set out (2 * i) lo) (2 * i + 1) hi) ≡ sample_bytes (take (i + 1) samples)
next_sample out samples i x lo hi d lt long so_far is el eh =
    let k : 2 * (i + 1) ≡ 2 * i + 1 + 1 = omega arith in
    let first : 2 * i < length out = omega arith in
    let second : 2 * i + 1 < length (set out (2 * i) lo) = omega (arith, length-set out (2 * i) lo) in
    let more : take (i + 1) samples ≡ take i samples ++ get_or samples i d ∷ [] = take_more samples i d lt in
    rw (k, take_more_set (set out (2 * i) lo) (2 * i + 1) hi second, take_more_set out (2 * i) lo first, more, sample_bytes-append (take i samples) (get_or samples i d ∷ []), so_far, el, eh, is)
    (append_assoc (sample_bytes (take i samples)) (cast_unsigned w16 (get_or samples i d) % 256 ∷ []) (cast_unsigned w16 (get_or samples i d) / 256 ∷ []))

-- one sample more of a row
pub next_cell : (out front : List ℤ) (level time channel n : ℕ) (x : ℤ) → n < length out → take n out ≡ front ++ map (sample level time) (below channel) → x ≡ sample level time channel
    → take (n + 1) (set out n x) ≡ front ++ map (sample level time) (below (channel + 1))
next_cell out front level time channel n x lt so_far is =
    let more : below (channel + 1) ≡ below channel ++ channel ∷ [] = rw add-one refl in
    take_more_set out n x lt ∙ rw (so_far, is, more, map-append (sample level time) (below channel) (channel ∷ [])) (append_assoc front (map (sample level time) (below channel)) (sample level time channel ∷ []))

-- one row more
pub next_row : (out : List ℤ) (level channels time channel : ℕ) → channel ≡ channels → take (time * channels + channel) out ≡ ramp level channels time ++ map (sample level time) (below channel)
    → take ((time + 1) * channels) out ≡ ramp level channels (time + 1)
next_row out level channels time channel all so_far =
    let far : (time + 1) * channels ≡ time * channels + channels = omega arith in
    let more : below (time + 1) ≡ below time ++ time ∷ [] = rw add-one refl in
    let row : ramp level channels (time + 1) ≡ ramp level channels time ++ map (sample level time) (below channels) =
    ap (λ (ts : List ℕ). flat_map (λ t. map (sample level t) (below channels)) ts) more
    ∙ flat_map-append (λ t. map (sample level t) (below channels)) (below time) (time ∷ [])
    ∙ ap (λ (r : List ℤ). ramp level channels time ++ r) (append-nil (map (sample level time) (below channels))) in
    rw (far, row) (rw all at so_far)

-- a sample in words of 16 bits
pub sample_16 : (level time channel : ℕ) → (level % 65536 + time % 65536 * ((channel + 1) % 65536) % 65536) % 65536 ≡ (level + time * (channel + 1)) % 65536
sample_16 level time channel =
    let p = sym (mul-mod time (channel + 1) 65536) in
    rw p (sums level (time * (channel + 1)))
  where
    sums : (a b : ℕ) → (a % 65536 + b % 65536) % 65536 ≡ (a + b) % 65536
    sums a b = omega arith
