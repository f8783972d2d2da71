-- A length that is written byte by byte.
use Rattle.std.proofs.Common.{◌≡◌, ℕ, ◌+◌, ◌-◌, ◌*◌, ◌/◌, ◌%◌, ◌<◌, Bool, List, ◌++◌, sym, ap, ◌∙◌, append_assoc, arith}
use Rattle.layout.specs.Text.{num}
use Rattle.esc_value.specs.SlotLength.{slot_text}
use Rattle.esc_value.proofs.SlotExact.{text_small, text_more}

-- So many bytes of 255 are written, and the rest of the length is not.
pub record Written (n i : ℕ) (old new : List Bool) : Type 0 where
  pub front : List Bool
  pub cut : slot_text n ≡ front ++ slot_text (n - 255 * i)
  pub held : new ≡ old ++ front

pub goes_on : (n i : ℕ) (old middle new : List Bool) → Written n i old middle → i < n / 255 → new ≡ middle ++ num 8 255 → Written n (i + 1) old new
goes_on n i old middle new w lt next =
    let k : n - 255 * i ≡ 255 + (n - 255 * (i + 1)) = omega arith in
    let rest = slot_text (n - 255 * (i + 1)) in
    record {
      front = w.front ++ num 8 255;
      cut = w.cut ∙ ap (λ (t : List Bool). w.front ++ t) (ap slot_text k ∙ text_more (n - 255 * (i + 1))) ∙ sym (append_assoc w.front (num 8 255) rest);
      held = next ∙ ap (λ (t : List Bool). t ++ num 8 255) w.held ∙ append_assoc old w.front (num 8 255);
    }

-- the last byte
pub ends : (n i : ℕ) (old middle new : List Bool) → Written n i old middle → i ≡ n / 255 → new ≡ middle ++ num 8 (n % 255) → new ≡ old ++ slot_text n
ends n i old middle new w all next =
    let k : n - 255 * i ≡ n % 255 = omega arith in
    let small : slot_text (n - 255 * i) ≡ num 8 (n % 255) = ap slot_text k ∙ text_small (n % 255) (omega arith) in
    next ∙ ap (λ (t : List Bool). t ++ num 8 (n % 255)) w.held ∙ append_assoc old w.front (num 8 (n % 255)) ∙ ap (λ (t : List Bool). old ++ (w.front ++ t)) (sym small) ∙ ap (λ (t : List Bool). old ++ t) (sym w.cut)
