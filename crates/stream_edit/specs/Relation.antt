-- What a change of targets keeps, as a relation of the elements before and behind. `Becomes` tells what a target's access unit becomes.
use Rattle.std.specs.Prelude.{◌≡◌, ◌+◌, ℕ, suc, Bool, true, false, List, [], ◌∷◌, length}
use Rattle.latm.specs.declared.mux_element.MuxElement.{MuxElement}
use Rattle.latm.specs.declared.stream.Stream.{Stream}
use Rattle.stream_edit.specs.Targets.{is_target}

-- A target's slot has become another one; every other slot is bit for bit the same.
abbrev pub IsSlot : (ℕ → List ℕ → List ℕ → Type 0) → Bool → ℕ → List ℕ → List ℕ → Type 0
IsSlot Becomes true t au new = Becomes t au new
IsSlot Becomes false t au new = new ≡ au

abbrev pub AreSlots : (ℕ → List ℕ → List ℕ → Type 0) → List ℕ → ℕ → List (List ℕ) → List (List ℕ) → Type 0
AreSlots Becomes targets t [] [] = Unit {0}
AreSlots Becomes targets t [] (new ∷ news) = ⊥
AreSlots Becomes targets t (au ∷ aus) [] = ⊥
AreSlots Becomes targets t (au ∷ aus) (new ∷ news) = IsSlot Becomes (is_target targets t) t au new × AreSlots Becomes targets (suc t) aus news

-- All but the slots is the same.
pub record IsElement (Becomes : ℕ → List ℕ → List ℕ → Type 0) (targets : List ℕ) (t : ℕ) (e new : MuxElement) : Type 0 where
  pub config : new.config ≡ e.config
  pub slots : AreSlots Becomes targets t e.slots new.slots
  pub other : new.other ≡ e.other
  pub tail : new.tail ≡ e.tail

abbrev pub AreElements : (ℕ → List ℕ → List ℕ → Type 0) → List ℕ → ℕ → List MuxElement → List MuxElement → Type 0
AreElements Becomes targets t [] [] = Unit {0}
AreElements Becomes targets t [] (new ∷ news) = ⊥
AreElements Becomes targets t (e ∷ es) [] = ⊥
AreElements Becomes targets t (e ∷ es) (new ∷ news) = IsElement Becomes targets t e new × AreElements Becomes targets (t + length e.slots) es news

-- The two streams agree in all but the slots of the targets.
abbrev pub IsEdited : (ℕ → List ℕ → List ℕ → Type 0) → List ℕ → Stream → Stream → Type 0
IsEdited Becomes targets s new = AreElements Becomes targets 0 s.elements new.elements
