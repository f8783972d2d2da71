-- What holds of a changed stream where it holds of each target: all else stays, units stay, and a change that is taken back gives the stream
-- that it was.
use Rattle.std.proofs.Common.{◌≡◌, ℕ, zero, suc, ◌+◌, Bool, true, false, List, [], ◌∷◌, length, map, Option, Some, None, refl, ap, subst, ◌∙◌, arith}
use Rattle.std.specs.Prelude.{slice_get, if◌then◌else◌}
use Rattle.usac_cfg.specs.declared.usac_config.UsacConfig.{UsacConfig}
use Rattle.usac_frame.specs.AccessUnit.{unit_in}
use Rattle.usac_frame.specs.Units.{UnitValue}
use Rattle.latm.specs.declared.mux_config.MuxConfig.{MuxConfig}
use Rattle.latm.specs.declared.mux_element.MuxElement.{MuxElement}
use Rattle.latm.specs.declared.stream.Stream.{Stream}
use Rattle.latm.specs.MuxElement.{then_in_force}
use Rattle.latm.specs.Stream.{IsWellFormed, AreElements, frames_of, config_in, au_in}
use Rattle.stream_edit.specs.Targets.{is_target}
use Rattle.stream_edit.specs.Edited.{slot_in, slots_in, element_in, elements_in, edited}
use Rattle.stream_edit.specs.Laws.{unit_of_frame, KeepsFrames}
use Rattle.stream_edit.specs.Relation.{IsSlot, AreSlots, AreElements as BecomeElements, IsEdited}
use Rattle.stream_edit.specs.Steps.{TargetsMay, MayChange, MayChangeUnder, MayChangeAll}
use Rattle.stream_edit.proofs.EditedFrames.{frames_in, frames_are, in_configs}
use Rattle.stream_edit.proofs.EditedStream.{as_many}
use Rattle.stream_edit.proofs.Elements.{in_force_of}
use Rattle.stream_edit.proofs.Standing.{MayFrom, may_tail, may_all, may_elements}

abbrev Pair : Type 0
Pair = UsacConfig × List ℕ

-- the targets of an element, under the configuration in force in it
under : (May : ℕ → UsacConfig → List ℕ → Type 0) (targets : List ℕ) (t : ℕ) (before : Option MuxConfig) (e : MuxElement) (m : MuxConfig) → then_in_force before e.config ≡ Some m
    → MayChangeUnder May targets t (then_in_force before e.config) e.slots → MayChange May targets t m.asc.usac e.slots
under May targets t before e m is h = let u : MayChangeUnder May targets t (Some m) e.slots = subst (λ (o : Option MuxConfig). MayChangeUnder May targets t o e.slots) is h in u

-- ---- all else stays

module _ (Becomes : ℕ → List ℕ → List ℕ → Type 0) (make : ℕ → List ℕ → List ℕ) (targets : List ℕ) where
  abbrev Made : ℕ → UsacConfig → List ℕ → Type 0
  Made t c au = Becomes t au (make t au)

  slot_becomes : (t : ℕ) (c : UsacConfig) (au : List ℕ) → (is_target targets t ≡ true → Made t c au) → IsSlot Becomes (is_target targets t) t au (slot_in make targets t au)
  slot_becomes t c au h = by_target (is_target targets t) refl
    where
      by_target : (b : Bool) → is_target targets t ≡ b → IsSlot Becomes b t au (if b then make t au else au)
      by_target true is = h is
      by_target false is = refl

  slots_become : (t : ℕ) (c : UsacConfig) (slots : List (List ℕ)) → MayChange Made targets t c slots → AreSlots Becomes targets t slots (slots_in make targets t slots)
  slots_become t c [] h = tt
  slots_become t c (au ∷ slots) h = (slot_becomes t c au h.0, slots_become (suc t) c slots h.1)

  elements_become : (t : ℕ) (before : Option MuxConfig) (es : List MuxElement) → AreElements before es → MayChangeAll Made targets t before es → BecomeElements Becomes targets t es (elements_in make targets t es)
  elements_become t before [] are h = tt
  elements_become t before (e ∷ es) are h =
      let m = in_force_of before e are.0 in (
        record { config = refl; slots = slots_become t m.0.asc.usac e.slots (under Made targets t before e m.0 m.1 h.0); other = refl; tail = refl },
        elements_become (t + length e.slots) (then_in_force before e.config) es are.1 h.1,
      )

  pub is_edited : (s : Stream) → IsWellFormed s → TargetsMay Made targets (frames_of s) → IsEdited Becomes targets s (edited make targets s)
  is_edited s w may = elements_become 0 None s.elements w.elements (may_elements Made targets 0 None s.elements w.elements (may_all Made targets (frames_of s) may))

-- ---- units stay

module _ (make : ℕ → List ℕ → List ℕ) (targets : List ℕ) where
  abbrev pub KeepsUnit : ℕ → UsacConfig → List ℕ → Type 0
  KeepsUnit t c au = unit_in c (make t au) ≡ unit_in c au

  slot_unit : (t : ℕ) (c : UsacConfig) (au : List ℕ) → (is_target targets t ≡ true → KeepsUnit t c au) → unit_in c (slot_in make targets t au) ≡ unit_in c au
  slot_unit t c au h = by_target (is_target targets t) refl
    where
      by_target : (b : Bool) → is_target targets t ≡ b → unit_in c (if b then make t au else au) ≡ unit_in c au
      by_target true is = h is
      by_target false is = refl

  units_from : (t : ℕ) (fs : List Pair) → MayFrom KeepsUnit targets t fs → map unit_of_frame (frames_in make targets t fs) ≡ map unit_of_frame fs
  units_from t [] h = refl
  units_from t (f ∷ fs) h =
      ap (λ (u : UnitValue). u ∷ map unit_of_frame (frames_in make targets (suc t) fs)) (slot_unit t (config_in f) (au_in f) (λ is. h zero t f (omega arith) refl is))
      ∙ ap (λ (us : List UnitValue). unit_of_frame f ∷ us) (units_from (suc t) fs (may_tail KeepsUnit targets t f fs h))

  pub keeps_frames : (s : Stream) → IsWellFormed s → TargetsMay KeepsUnit targets (frames_of s) → KeepsFrames s (edited make targets s)
  keeps_frames s w may =
      let are : frames_of (edited make targets s) ≡ frames_in make targets 0 (frames_of s) = frames_are make targets 0 None s.elements w.elements in
      record {
        configs = ap (λ (fs : List Pair). map config_in fs) are ∙ in_configs make targets 0 (frames_of s);
        units = ap (λ (fs : List Pair). map unit_of_frame fs) are ∙ units_from 0 (frames_of s) (may_all KeepsUnit targets (frames_of s) may);
      }

-- ---- and back

module _ (make back : ℕ → List ℕ → List ℕ) (targets : List ℕ) where
  abbrev pub TakesBack : ℕ → UsacConfig → List ℕ → Type 0
  TakesBack t c au = back t (make t au) ≡ au

  slot_back : (t : ℕ) (c : UsacConfig) (au : List ℕ) → (is_target targets t ≡ true → TakesBack t c au) → slot_in back targets t (slot_in make targets t au) ≡ au
  slot_back t c au h = by_target (is_target targets t) refl
    where
      by_target : (b : Bool) → is_target targets t ≡ b → (let one = if b then make t au else au in if b then back t one else one) ≡ au
      by_target true is = h is
      by_target false is = refl

  slots_back : (t : ℕ) (c : UsacConfig) (slots : List (List ℕ)) → MayChange TakesBack targets t c slots → slots_in back targets t (slots_in make targets t slots) ≡ slots
  slots_back t c [] h = refl
  slots_back t c (au ∷ slots) h =
      ap (λ (x : List ℕ). x ∷ slots_in back targets (suc t) (slots_in make targets (suc t) slots)) (slot_back t c au h.0)
      ∙ ap (λ (xs : List (List ℕ)). au ∷ xs) (slots_back (suc t) c slots h.1)

  elements_back : (t : ℕ) (before : Option MuxConfig) (es : List MuxElement) → AreElements before es → MayChangeAll TakesBack targets t before es → elements_in back targets t (elements_in make targets t es) ≡ es
  elements_back t before [] are h = refl
  elements_back t before (e ∷ es) are h =
      let m = in_force_of before e are.0 in
      let own : element_in back targets t (element_in make targets t e) ≡ e =
      ap (λ (xs : List (List ℕ)). let x : MuxElement = record { config = e.config; slots = xs; other = e.other; tail = e.tail } in x) (slots_back t m.0.asc.usac e.slots (under TakesBack targets t before e m.0 m.1 h.0)) in
      ap (λ (x : MuxElement). x ∷ elements_in back targets (t + length (slots_in make targets t e.slots)) (elements_in make targets (t + length e.slots) es)) own
      ∙ ap (λ (n : ℕ). e ∷ elements_in back targets (t + n) (elements_in make targets (t + length e.slots) es)) (as_many make targets t e.slots)
      ∙ ap (λ (xs : List MuxElement). e ∷ xs) (elements_back (t + length e.slots) (then_in_force before e.config) es are.1 h.1)

  pub edited_back : (s : Stream) → IsWellFormed s → TargetsMay TakesBack targets (frames_of s) → edited back targets (edited make targets s) ≡ s
  edited_back s w may =
      ap (λ (es : List MuxElement). let x : Stream = record { elements = es } in x)
      (elements_back 0 None s.elements w.elements (may_elements TakesBack targets 0 None s.elements w.elements (may_all TakesBack targets (frames_of s) may)))
