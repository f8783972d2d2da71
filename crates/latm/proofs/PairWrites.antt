-- Pairs that are written one after another.
use Rattle.std.proofs.Common.{◌≡◌, ℕ, suc, ◌+◌, ◌-◌, ◌/◌, ◌%◌, ◌<◌, ◌≤◌, Bool, true, List, ◌∷◌, ◌++◌, sym, ap, ◌∙◌, append_assoc, arith, refl}
use Rattle.std.proofs.lemmas.List.{append-nil}
use Rattle.layout.specs.Text.{num}
use Rattle.latm.specs.Pairs.{more_text}
use Rattle.latm.specs.PairsExact.{more_text_peel, more_text_none}

-- one more pair, whose byte is the whole number
pub byte_more : (n b : ℕ) → b < 256 → more_text (n + 1) b ≡ more_text n 0 ++ true ∷ num 8 b
byte_more n b lt =
    let k : n + 1 ≡ suc n = omega arith in
    let q : b / 256 ≡ 0 = omega arith in
    let m : b % 256 ≡ b = omega arith in
    ap (λ (j : ℕ). more_text j b) k ∙ more_text_peel n b ∙ rw (q, m) refl

-- one more pair of 0 behind others
pub zero_more : (old middle new : List Bool) (n : ℕ) → middle ≡ old ++ more_text n 0 → new ≡ middle ++ true ∷ num 8 0 → new ≡ old ++ more_text (n + 1) 0
zero_more old middle new n so_far next =
    next ∙ ap (λ (t : List Bool). t ++ true ∷ num 8 0) so_far ∙ append_assoc old (more_text n 0) (true ∷ num 8 0) ∙ ap (λ (t : List Bool). old ++ t) (sym (byte_more n 0 (omega arith)))

-- no pairs before the last one
pub none_before : (old : List Bool) (n b : ℕ) → n ≤ 0 → old ≡ old ++ more_text n b
none_before old n b none =
    let k : n ≡ 0 = omega arith in
    sym (ap (λ (j : ℕ). old ++ more_text j b) k ∙ ap (λ (t : List Bool). old ++ t) (more_text_none b) ∙ append-nil old)

-- zeros, and one byte
pub upper : (old middle new : List Bool) (n b : ℕ) → 0 < n → b < 256 → middle ≡ old ++ more_text (n - 1) 0 → new ≡ middle ++ true ∷ num 8 b → new ≡ old ++ more_text n b
upper old middle new n b some lt so_far next =
    let k : n - 1 + 1 ≡ n = omega arith in
    next ∙ ap (λ (t : List Bool). t ++ true ∷ num 8 b) so_far ∙ append_assoc old (more_text (n - 1) 0) (true ∷ num 8 b) ∙ ap (λ (t : List Bool). old ++ t) (sym (byte_more (n - 1) b lt)) ∙ ap (λ (j : ℕ). old ++ more_text j b) k
