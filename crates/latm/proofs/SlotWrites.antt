-- Slots that are written one after another.
use Rattle.std.proofs.Common.{◌≡◌, ℕ, ◌<◌, Bool, List, ◌++◌, length, get_or, refl, sym, ap, ◌∙◌, append_assoc, arith}
use Rattle.std.specs.List.{flat_map}
use Rattle.std.proofs.lemmas.List.{length-append}
use Rattle.std.proofs.lemmas.List.Folds.{length-flat_map-take}
use Rattle.layout.specs.Text.{num, bits_of}
use Rattle.layout.proofs.TextLemmas.{length-bits_of}
use Rattle.esc_value.specs.SlotLength.{slot_text}
use Rattle.latm.specs.MuxElement.{slot_of_bytes}

spelled : (xs : List ℕ) → flat_map (num 8) xs ≡ bits_of xs
unfolding bits_of
spelled xs = refl

-- a slot is as long as its bytes at least
pub slot_over : (xs : List ℕ) → 8191 < length xs → 65528 < length (slot_of_bytes.spelling xs)
slot_over xs lt = omega (arith, lt, length-append (slot_text (length xs)) (flat_map (num 8) xs), ap (λ (t : List Bool). length t) (spelled xs), length-bits_of xs)

pub slot_written : (old middle new : List Bool) (xs : List ℕ) (n : ℕ) → middle ≡ old ++ slot_text n → new ≡ middle ++ bits_of xs → n ≡ length xs → new ≡ old ++ slot_of_bytes.spelling xs
slot_written old middle new xs n first next is =
    next ∙ ap (λ (t : List Bool). t ++ bits_of xs) first ∙ append_assoc old (slot_text n) (bits_of xs) ∙ ap (λ (t : List Bool). old ++ (slot_text n ++ t)) (sym (spelled xs)) ∙ ap (λ (k : ℕ). old ++ (slot_text k ++ flat_map (num 8) xs)) is

-- one slot that is too long among others
pub over_in : (xs : List (List ℕ)) (i : ℕ) (v d : List ℕ) → i < length xs → v ≡ get_or xs i d → 65528 < length (slot_of_bytes.spelling v) → 65528 < length (flat_map slot_of_bytes.spelling xs)
over_in xs i v d lt is over =
    omega (arith, over, length-flat_map-take slot_of_bytes.spelling xs i d lt, ap (λ (u : List ℕ). length (slot_of_bytes.spelling u)) is)
