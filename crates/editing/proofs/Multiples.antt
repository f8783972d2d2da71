-- The multiples of a step that are numbers of frames.
use Rattle.std.proofs.Common.{◌≡◌, ℕ, ◌+◌, ◌-◌, ◌*◌, ◌/◌, ◌<◌, ◌≤◌, length, get_or, arith, ap, sym, ◌∙◌}
use Rattle.std.specs.List.{Contains}
use Rattle.std.proofs.Math.Nat.{le-div_iff_mul-le}
use Rattle.std.proofs.lemmas.List.FromFn.{length-map-range_with_len, get_or-map-range_with_len}
use Rattle.editing.specs.TargetLists.{multiples_below, AreMultiples}

count-multiples : (step frames : ℕ) → length (multiples_below step frames) ≡ (frames - 1) / step
count-multiples step frames = length-map-range_with_len (λ times. times * step) 1 ((frames - 1) / step)

multiple_at : (step frames i d : ℕ) → i < (frames - 1) / step → get_or (multiples_below step frames) i d ≡ (i + 1) * step
multiple_at step frames i d within = get_or-map-range_with_len (λ times. times * step) 1 ((frames - 1) / step) i (i + 1) d within (omega arith)

later_is_more : (step i : ℕ) → 1 ≤ step → (i + 1) * step < (i + 1 + 1) * step
later_is_more step i some = omega arith

rise : (step frames k : ℕ) → 1 ≤ step → k + 1 < length (multiples_below step frames) → get_or (multiples_below step frames) k 0 < get_or (multiples_below step frames) (k + 1) 0
rise step frames k some within =
    let count = count-multiples step frames in
    let here = multiple_at step frames k 0 (omega (arith, count, within)) in
    let there = multiple_at step frames (k + 1) 0 (omega (arith, count, within)) in
    let more = later_is_more step k some in
    omega (arith, here, there, more)

below : (step frames i : ℕ) → 1 ≤ step → i < (frames - 1) / step → (i + 1) * step < frames
below step frames i some within =
    let most : (i + 1) * step ≤ frames - 1 = (le-div_iff_mul-le {k = step} {x = i + 1} {y = frames - 1} (omega (arith, some))).0 (omega (arith, within)) in
    omega (arith, most, some)

is_multiple : (step frames target : ℕ) → 1 ≤ step → Contains (multiples_below step frames) target → (times : ℕ) × (1 ≤ times) × (target ≡ times * step) × (target < frames)
is_multiple step frames target some (i, within, is) =
    let count = count-multiples step frames in
    let inside : i < (frames - 1) / step = omega (arith, count, within) in
    let e = sym is ∙ multiple_at step frames i target inside in
    let few = below step frames i some inside in
    (i + 1, omega arith, e, omega (arith, e, few))

is_listed : (step frames target times : ℕ) → 1 ≤ step → 1 ≤ times → target ≡ times * step → target < frames → Contains (multiples_below step frames) target
is_listed step frames target times some one is few =
    let count = count-multiples step frames in
    let most : times ≤ (frames - 1) / step = (le-div_iff_mul-le {k = step} {x = times} {y = frames - 1} (omega (arith, some))).1 (omega (arith, is, few)) in
    let inside : times - 1 < (frames - 1) / step = omega (arith, most, one) in
    let same : times - 1 + 1 ≡ times = omega (arith, one) in
    (times - 1, omega (arith, inside, count), multiple_at step frames (times - 1) target inside ∙ (ap (λ n. n * step) same ∙ sym is))

pub are_multiples : (step frames : ℕ) → 1 ≤ step → AreMultiples step frames (multiples_below step frames)
are_multiples step frames some = record {
  rise = λ k within. rise step frames k some within;
  are = λ target. (is_multiple step frames target some, λ (times, one, is, few). is_listed step frames target times some one is few);
}
