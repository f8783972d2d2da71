-- An element has a slot, and no more slots than bytes.
use Rattle.std.proofs.Common.{◌≡◌, ℕ, ◌*◌, ◌/◌, ◌%◌, ◌<◌, ◌≤◌, Bool, List, [], ◌∷◌, ◌++◌, length, Option, Some, None, refl, ap, arith, replicate}
use Rattle.std.specs.Prelude.{is_some}
use Rattle.std.specs.List.{flat_map}
use Rattle.std.proofs.lemmas.List.{length-append}
use Rattle.layout.specs.Text.{num, bits_of}
use Rattle.layout.proofs.TextLemmas.{length-bits_of}
use Rattle.esc_value.specs.SlotLength.{slot_text}
use Rattle.latm.specs.declared.mux_config.MuxConfig.{MuxConfig}
use Rattle.latm.specs.declared.mux_element.MuxElement.{MuxElement}
use Rattle.latm.specs.MuxElement.{element, opening, slot_of_bytes, then_in_force, slot_count}
use Rattle.au_stream.specs.Elements.{IsElement}

-- a length is a byte at least
slot_long : (n : ℕ) → 8 ≤ length (slot_text n)
unfolding slot_text bits_of
slot_long n = omega (arith, length-bits_of (replicate (n / 255) 255 ++ (n % 255) ∷ []), length-append (replicate (n / 255) 255) ((n % 255) ∷ []))

slots_long : (slots : List (List ℕ)) → 8 * length slots ≤ length (flat_map slot_of_bytes.spelling slots)
slots_long [] = omega arith
slots_long (au ∷ slots) =
    omega (arith, slots_long slots, slot_long (length au), length-append (slot_of_bytes.spelling au) (flat_map slot_of_bytes.spelling slots), length-append (slot_text (length au)) (flat_map (num 8) au))

pub slots_fit : (before : Option MuxConfig) (e : MuxElement) (body : List ℕ) → IsElement before e body → length e.slots ≤ length body
slots_fit before e body is =
    let front = (opening (is_some before)).spelling e.config in
    let slots = flat_map slot_of_bytes.spelling e.slots in
    let whole : bits_of body ≡ front ++ (slots ++ (e.other ++ e.tail)) = is.spelled in
    omega (arith, slots_long e.slots, length-bits_of body, ap (λ (t : List Bool). length t) whole, length-append front (slots ++ (e.other ++ e.tail)), length-append slots (e.other ++ e.tail))

-- a configuration is in force behind it, and it has a slot
pub some_in_force : (before : Option MuxConfig) (e : MuxElement) (body : List ℕ) → IsElement before e body → (m : MuxConfig) × (then_in_force before e.config ≡ Some m) × (0 < length e.slots)
some_in_force before e body is = go before e.config is.fits.0 is.fits.1
  where
    go : (b own : Option MuxConfig) → (opening (is_some b)).Fits own → (let L = Rattle.latm.specs.MuxElement.body (then_in_force b own) in L.Fits (e.slots, (e.other, e.tail)))
        → (m : MuxConfig) × (then_in_force b own ≡ Some m) × (0 < length e.slots)
    go None None fits body_fits = absurd (let never = fits.0.1 in cc)
    go (Some m) None fits body_fits = (m, refl, omega (arith, body_fits.0.0))
    go b (Some m) fits body_fits = (m, refl, omega (arith, body_fits.0.0))
