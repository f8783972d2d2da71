-- Slots make whole bytes, so an element with other slots makes whole bytes where it did before.
use Rattle.std.proofs.Common.{◌≡◌, ℕ, ◌+◌, ◌*◌, ◌/◌, ◌%◌, false, List, [], ◌∷◌, ◌++◌, length, replicate, refl, ap, ◌∙◌, arith}
use Rattle.std.specs.List.{flat_map}
use Rattle.std.proofs.lemmas.List.{length-append}
use Rattle.layout.specs.Text.{num, bits_of}
use Rattle.layout.proofs.TextLemmas.{length-bits_of}
use Rattle.esc_value.specs.SlotLength.{slot_text}
use Rattle.latm.specs.declared.mux_element.MuxElement.{MuxElement}
use Rattle.latm.specs.MuxElement.{with_slots, opening, slot_of_bytes}
use Rattle.latm.specs.Written.{element_text}

pub bytes_whole : (xs : List ℕ) → length (flat_map (num 8) xs) ≡ 8 * length xs
unfolding bits_of
bytes_whole xs = length-bits_of xs

length_whole : (n : ℕ) → length (slot_text n) % 8 ≡ 0
unfolding slot_text
length_whole n = let p = bytes_whole (replicate (n / 255) 255 ++ (n % 255) ∷ []) in omega (arith, p)

slot_whole : (xs : List ℕ) → length (slot_of_bytes.spelling xs) % 8 ≡ 0
slot_whole xs = omega (arith, length-append (slot_text (length xs)) (flat_map (num 8) xs), length_whole (length xs), bytes_whole xs)

slots_whole : (xs : List (List ℕ)) → length (flat_map slot_of_bytes.spelling xs) % 8 ≡ 0
slots_whole [] = refl
slots_whole (x ∷ xs) = omega (arith, length-append (slot_of_bytes.spelling x) (flat_map slot_of_bytes.spelling xs), slot_whole x, slots_whole xs)

-- how long an element is
pub text_length : (e : MuxElement) → length (element_text e) ≡ length ((opening false).spelling e.config) + (length (flat_map slot_of_bytes.spelling e.slots) + (length e.other + length e.tail))
text_length e =
    length-append ((opening false).spelling e.config) (flat_map slot_of_bytes.spelling e.slots ++ (e.other ++ e.tail))
    ∙ ap (λ (n : ℕ). length ((opening false).spelling e.config) + n) (length-append (flat_map slot_of_bytes.spelling e.slots) (e.other ++ e.tail) ∙ ap (λ (n : ℕ). length (flat_map slot_of_bytes.spelling e.slots) + n) (length-append e.other e.tail))

pub whole_with : (slots : List (List ℕ)) (e : MuxElement) → length (element_text e) % 8 ≡ 0 → length (element_text (with_slots slots e)) % 8 ≡ 0
whole_with slots e whole = omega (arith, whole, text_length e, text_length (with_slots slots e), slots_whole e.slots, slots_whole slots)
