use Rattle.std.proofs.Common.{◌≡◌, ℕ, ◌+◌, ◌-◌, ◌*◌, ◌<◌, ◌≤◌, ◌^◌, Bool, true, List, ◌∷◌, length, drop, get_or, arith, ap, sym, ◌∙◌, add-one}
use Rattle.std.specs.Prelude.{◌&&◌}
use Rattle.std.specs.Char.{is_ascii_digit}
use Rattle.std.proofs.Math.Nat.{pow-suc, pow-le-pow_right}
use Rattle.std.proofs.Math.Seq.{drop-cons}
use Rattle.std.proofs.lemmas.Grind.{pow_more}
use Rattle.xheaac_tool.specs.Numbers.{are_digits, value_of}
use Rattle.xheaac_tool.proofs.numbers.read_number.Goals as goal

-- a digit more
more_value : (v d : ℕ) (rest : List ℕ) → v * 10 ^ length (d ∷ rest) + value_of (d ∷ rest) ≡ (10 * v + (d - 48)) * 10 ^ length rest + value_of rest
more_value v d rest = let p = pow-suc 10 (length rest) in let e = ap (λ x. v * x) p in omega (arith, e)

small_more : (v d i : ℕ) → v < 10 ^ i → d - 48 < 10 → 10 * v + (d - 48) < 10 ^ (i + 1)
small_more v d i small digit = let e : 10 ^ (i + 1) ≡ 10 ^ i * 10 = pow_more 10 i in omega (arith, e, small, digit)

-- with at most 17 digits before it
few : (v i n : ℕ) → v < 10 ^ i → i < n → n ≤ 18 → v < 10 ^ 17
few v i n small before most = let le : i ≤ 17 = omega (arith, before, most) in let p : 10 ^ i ≤ 10 ^ 17 = pow-le-pow_right {n = 10} (omega arith) le in omega (arith, p, small)

pub overflow_mul-value : goal.overflow_mul-value
overflow_mul-value c =
    let small = few c.loop-digit.value c.loop-digit.digit-index (length c.as_bytes-digits.result.now) c.loop-digit.invariant.small c.loop-digit-test.true c.if-digits-gt18.false in
    omega (arith, small)

pub overflow_add-value : goal.overflow_add-value
overflow_add-value c =
    let small = few c.loop-digit.value c.loop-digit.digit-index (length c.as_bytes-digits.result.now) c.loop-digit.invariant.small c.loop-digit-test.true c.if-digits-gt18.false in
    let digit = c.if-not-is_ascii_digit.ensures.cases in
    omega (arith, small, digit, c.from.ensures)

pub loop-digit-preserved : goal.loop-digit-preserved
loop-digit-preserved c =
    let text = c.as_bytes-digits.result.now in
    let i = c.loop-digit.digit-index in
    let d = get_or text i 0 in
    let rest = drop (i + 1) text in
    let digit = c.if-not-is_ascii_digit.ensures.cases in
    let is : is_ascii_digit d ≡ true = sym c.is_ascii_digit.ensures.value ∙ c.if-not-is_ascii_digit.false in
    let here : drop i text ≡ d ∷ rest = rw add-one (drop-cons text i 0 c.loop-digit-test.true) in
    let value : (10 * c.loop-digit.value + (d - 48)) * 10 ^ length rest + value_of rest ≡ value_of text =
    sym (more_value c.loop-digit.value d rest) ∙ (ap (λ (xs : List ℕ). c.loop-digit.value * 10 ^ length xs + value_of xs) (sym here) ∙ c.loop-digit.invariant.value) in
    record {
      value = ap (λ (n : ℕ). (10 * c.loop-digit.value + n) * 10 ^ length rest + value_of rest) c.from.ensures ∙ value;
      digits = c.loop-digit.invariant.digits ∙ (ap are_digits here ∙ ap (λ (b : Bool). b && are_digits rest) is);
      small = (let s = small_more c.loop-digit.value d i c.loop-digit.invariant.small (omega (arith, digit)) in omega (arith, s, c.from.ensures));
    }
