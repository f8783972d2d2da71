-- The zeros at the end of a text, looked at one by one.
use Rattle.std.proofs.Common.{◌≡◌, ℕ, ◌+◌, ◌-◌, ◌<◌, ◌≤◌, Bool, true, false, List, ◌∷◌, length, drop, Option, Some, None, refl, sym, ap, ◌∙◌, arith}
use Rattle.std.specs.Prelude.{not, ◌&&◌, slice_get, nat_lt, unwrap_or, if◌then◌else◌}
use Rattle.std.specs.Option.{option_eq}
use Rattle.std.specs.List.{list_all}
use Rattle.std.proofs.lemmas.Bool.Decides.{nat_tests}
use Rattle.std.proofs.lemmas.List.{at_drop_more}
use Rattle.std.proofs.lemmas.Option.{unwrap_or-slice_get}
use Rattle.ipf_frame.specs.Stripping.{ends_in_zeros}

-- one bit more is looked at
pub one_more : (eq : Bool → Bool → Bool) → eq true true ≡ true → eq false true ≡ false → (bits : List Bool) (at : ℕ) (b : Bool) (got : Option Bool) → at < length bits → b ≡ option_eq eq got (Some true) → got ≡ slice_get bits at
    → list_all not (drop at bits) ≡ (if b then false else list_all not (drop (at + 1) bits))
one_more eq same other bits at b got lt e is =
    at_drop_more (λ (t : List Bool). list_all not t) bits at false lt
    ∙ ap (λ (x : Bool). list_all not (x ∷ drop (at + 1) bits)) (sym (unwrap_or-slice_get bits at false))
    ∙ (by_bit (slice_get bits at) ∙ ap (λ (x : Bool). if x then false else list_all not (drop (at + 1) bits)) (sym (e ∙ ap (λ (o : Option Bool). option_eq eq o (Some true)) is)))
  where
    by_bit : (o : Option Bool) → list_all not (unwrap_or o false ∷ drop (at + 1) bits) ≡ (if option_eq eq o (Some true) then false else list_all not (drop (at + 1) bits))
    by_bit None = refl
    by_bit (Some true) = ap (λ (x : Bool). if x then false else list_all not (drop (at + 1) bits)) (sym same)
    by_bit (Some false) = ap (λ (x : Bool). if x then false else list_all not (drop (at + 1) bits)) (sym other)

-- there are enough bits: the last ones decide
pub enough : (n : ℕ) (bits : List Bool) (b : Bool) → n ≤ length bits → list_all not (drop (length bits - n) bits) ≡ b → ends_in_zeros n bits ≡ b
enough n bits b le e = by_test (nat_lt (length bits) n) refl
  where
    by_test : (x : Bool) → nat_lt (length bits) n ≡ x → (not x && list_all not (drop (length bits - n) bits)) ≡ b
    by_test true lt = absurd (let bad : length bits < n = grind (arith, nat_tests) in omega (arith, le, bad))
    by_test false lt = e
