-- Where no target's access unit grows, each element can still be written.
use Rattle.std.proofs.Common.{◌≡◌, ℕ, suc, ◌+◌, ◌*◌, ◌/◌, ◌%◌, ◌≤◌, Bool, true, false, List, [], ◌∷◌, ◌++◌, length, replicate, Option, Some, None, refl, ap, subst, ◌∙◌, arith}
use Rattle.std.specs.Prelude.{if◌then◌else◌}
use Rattle.std.specs.List.{flat_map, AllByRecursion}
use Rattle.std.proofs.lemmas.List.{length-append, length-replicate}
use Rattle.layout.specs.Text.{num}
use Rattle.esc_value.specs.SlotLength.{slot_text}
use Rattle.usac_cfg.specs.declared.usac_config.UsacConfig.{UsacConfig}
use Rattle.latm.specs.declared.mux_config.MuxConfig.{MuxConfig}
use Rattle.latm.specs.declared.mux_element.MuxElement.{MuxElement}
use Rattle.latm.specs.declared.stream.Stream.{Stream}
use Rattle.latm.specs.MuxElement.{then_in_force, slot_of_bytes, with_slots}
use Rattle.latm.specs.Stream.{IsWellFormed, IsElementOf, AreElements, frames_of}
use Rattle.latm.specs.Written.{element_text}
use Rattle.stream_edit.specs.Targets.{is_target}
use Rattle.stream_edit.specs.Edited.{slot_in, slots_in, element_in, elements_in}
use Rattle.stream_edit.specs.Giving.{IsWritable}
use Rattle.stream_edit.specs.Steps.{TargetsMay, MayChange, MayChangeUnder, MayChangeAll}
use Rattle.stream_edit.proofs.Elements.{in_force_of}
use Rattle.stream_edit.proofs.Standing.{may_all, may_elements}
use Rattle.stream_edit.proofs.Whole.{bytes_whole, text_length, whole_with}

length_text : (n : ℕ) → length (slot_text n) ≡ 8 * (n / 255 + 1)
unfolding slot_text
length_text n =
    let p = bytes_whole (replicate (n / 255) 255 ++ (n % 255) ∷ []) in
    omega (arith, p, length-append (replicate (n / 255) 255) ((n % 255) ∷ []), length-replicate {A = ℕ} (n / 255) 255)

slot_short : (new au : List ℕ) → length new ≤ length au → length (slot_of_bytes.spelling new) ≤ length (slot_of_bytes.spelling au)
slot_short new au le =
    omega (arith, le, length-append (slot_text (length new)) (flat_map (num 8) new), length-append (slot_text (length au)) (flat_map (num 8) au), length_text (length new), length_text (length au), bytes_whole new, bytes_whole au)

module _ (make : ℕ → List ℕ → List ℕ) (targets : List ℕ) where
  abbrev pub Shorter : ℕ → UsacConfig → List ℕ → Type 0
  Shorter t c au = length (make t au) ≤ length au

  one_short : (t : ℕ) (c : UsacConfig) (au : List ℕ) → (is_target targets t ≡ true → Shorter t c au) → length (slot_in make targets t au) ≤ length au
  one_short t c au h = by_target (is_target targets t) refl
    where
      by_target : (b : Bool) → is_target targets t ≡ b → length (if b then make t au else au) ≤ length au
      by_target true is = h is
      by_target false is = omega arith

  slots_short : (t : ℕ) (c : UsacConfig) (slots : List (List ℕ)) → MayChange Shorter targets t c slots → length (flat_map slot_of_bytes.spelling (slots_in make targets t slots)) ≤ length (flat_map slot_of_bytes.spelling slots)
  slots_short t c [] h = omega arith
  slots_short t c (au ∷ slots) h =
      omega (
        arith,
        slot_short (slot_in make targets t au) au (one_short t c au h.0),
        slots_short (suc t) c slots h.1,
        length-append (slot_of_bytes.spelling (slot_in make targets t au)) (flat_map slot_of_bytes.spelling (slots_in make targets (suc t) slots)),
        length-append (slot_of_bytes.spelling au) (flat_map slot_of_bytes.spelling slots),
      )

  element_short : (t : ℕ) (c : UsacConfig) (e : MuxElement) → MayChange Shorter targets t c e.slots → length (element_text (element_in make targets t e)) ≤ length (element_text e)
  element_short t c e h = omega (arith, text_length e, text_length (element_in make targets t e), slots_short t c e.slots h)

  writable_from : (t : ℕ) (before : Option MuxConfig) (es : List MuxElement) → AreElements before es → MayChangeAll Shorter targets t before es → AllByRecursion IsWritable (elements_in make targets t es)
  writable_from t before [] are h = tt
  writable_from t before (e ∷ es) are h =
      let m = in_force_of before e are.0 in
      let under : MayChangeUnder Shorter targets t (Some m.0) e.slots = subst (λ (o : Option MuxConfig). MayChangeUnder Shorter targets t o e.slots) m.1 h.0 in
      let short = element_short t m.0.asc.usac e under in
      let few = are.0.few in (
        record { config = are.0.fits.0.1.1; whole = whole_with (slots_in make targets t e.slots) e are.0.whole; few = omega (arith, short, few) },
        writable_from (t + length e.slots) (then_in_force before e.config) es are.1 h.1,
      )

  pub shorter_is_writable : (s : Stream) → IsWellFormed s → TargetsMay Shorter targets (frames_of s) → AllByRecursion IsWritable (elements_in make targets 0 s.elements)
  shorter_is_writable s w may = writable_from 0 None s.elements w.elements (may_elements Shorter targets 0 None s.elements w.elements (may_all Shorter targets (frames_of s) may))
