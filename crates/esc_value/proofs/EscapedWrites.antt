-- Numbers that escape, as they are written field by field.
use Rattle.std.proofs.Common.{◌≡◌, ℕ, ◌+◌, ◌-◌, ◌^◌, ◌<◌, ◌≤◌, Bool, true, List, ◌++◌, Result, Ok, Err, refl, sym, ap, ◌∙◌, append_assoc, arith, inl, inr}
use Rattle.std.proofs.lemmas.Nat.{pow_pos}
use Rattle.std.proofs.lemmas.List.{replicate-append-replicate}
use Rattle.layout.specs.Text.{num}
use Rattle.esc_value.specs.Escaped.{ones, escaped_text}
use Rattle.esc_value.specs.EscapedExact.{num_ones, esc_second, esc_third}

-- a number that was written in two fields, or in three
pub written_two : (a b c v x y : ℕ) (old middle new : List Bool) → x ≡ 2 ^ a - 1 → y ≡ 2 ^ b - 1 → middle ≡ old ++ num a x → x ≤ v → v < x + y → new ≡ middle ++ num b (v - x) → new ≡ old ++ escaped_text a b c v
written_two a b c v x y old middle new x-is y-is first le lt next =
    let one = pow_pos a in
    let two = pow_pos b in
    rw (next, first, x-is, num_ones, esc_second a b c v (omega arith) (omega arith)) (append_assoc old (ones a) (num b (v - (2 ^ a - 1))))

pub written_three : (a b c v x y : ℕ) (old middle last new : List Bool) → x ≡ 2 ^ a - 1 → y ≡ 2 ^ b - 1 → middle ≡ old ++ num a x → last ≡ middle ++ num b y → x + y ≤ v → new ≡ last ++ num c (v - x - y) → new ≡ old ++ escaped_text a b c v
written_three a b c v x y old middle last new x-is y-is first next le third_is =
    let one = pow_pos a in
    let two = pow_pos b in
    let k : v - (2 ^ a - 1) - (2 ^ b - 1) ≡ v - (2 ^ a + 2 ^ b - 2) = omega arith in
    rw (third_is, next, first, x-is, y-is, num_ones a, num_ones b, k, esc_third a b c v (omega arith) (omega arith), ← replicate-append-replicate a b true) (simp append_assoc)
