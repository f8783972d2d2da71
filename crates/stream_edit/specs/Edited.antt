-- A stream of which the access units of some frames are changed, and nothing else (ISO/IEC 14496-3, AudioMuxElement).
use Rattle.std.specs.Prelude.{◌+◌, ℕ, suc, List, [], ◌∷◌, length, if◌then◌else◌}
use Rattle.latm.specs.declared.mux_element.MuxElement.{MuxElement}
use Rattle.latm.specs.declared.stream.Stream.{Stream}
use Rattle.latm.specs.MuxElement.{with_slots}
use Rattle.stream_edit.specs.Targets.{is_target}

-- the access unit of frame t, where `new` gives what becomes of a target's
abbrev pub slot_in : (ℕ → List ℕ → List ℕ) → List ℕ → ℕ → List ℕ → List ℕ
slot_in new targets t au = if is_target targets t then new t au else au

-- those of the frames from t on
abbrev pub slots_in : (ℕ → List ℕ → List ℕ) → List ℕ → ℕ → List (List ℕ) → List (List ℕ)
slots_in new targets t [] = []
slots_in new targets t (au ∷ aus) = slot_in new targets t au ∷ slots_in new targets (suc t) aus

-- an element whose first frame is frame t
abbrev pub element_in : (ℕ → List ℕ → List ℕ) → List ℕ → ℕ → MuxElement → MuxElement
element_in new targets t e = with_slots (slots_in new targets t e.slots) e

abbrev pub elements_in : (ℕ → List ℕ → List ℕ) → List ℕ → ℕ → List MuxElement → List MuxElement
elements_in new targets t [] = []
elements_in new targets t (e ∷ es) = element_in new targets t e ∷ elements_in new targets (t + length e.slots) es

-- the stream with its targets changed
abbrev pub edited : (ℕ → List ℕ → List ℕ) → List ℕ → Stream → Stream
edited new targets s = record { elements = elements_in new targets 0 s.elements }
