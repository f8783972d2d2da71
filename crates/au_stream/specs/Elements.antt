-- Which bytes are which elements of a mux, a LOAS frame each (ISO/IEC 14496-3, AudioSyncStream and AudioMuxElement).
use Rattle.std.specs.Prelude.{◌≡◌, ℕ, ◌≤◌, List, [], ◌∷◌, ◌++◌, length, Option, None}
use Rattle.layout.specs.Text.{bits_of}
use Rattle.loas.specs.Framing.{framed, IsFrameBody}
use Rattle.latm.specs.declared.mux_config.MuxConfig.{MuxConfig}
use Rattle.latm.specs.declared.mux_element.MuxElement.{MuxElement}
use Rattle.latm.specs.MuxElement.{element, then_in_force}

-- These bytes are the element, where `before` is in force.
pub record IsElement (before : Option MuxConfig) (e : MuxElement) (body : List ℕ) : Type 0 where
  pub fits : (let L = element before in L.Fits e)
  pub spelled : bits_of body ≡ (let L = element before in L.spelling e)

-- The text is the bytes of these elements, a LOAS frame each, and then the rest. An element's configuration is in force for
-- itself and for those behind it.
abbrev pub Carries : Option MuxConfig → List ℕ → List MuxElement → List ℕ → Type 0
Carries before text [] rest = text ≡ rest
Carries before text (e ∷ es) rest =
    (body behind : List ℕ) × IsFrameBody body × (text ≡ framed body ++ behind) × IsElement before e body × Carries (then_in_force before e.config) behind es rest

-- the configuration in force behind elements
abbrev pub in_force_behind : Option MuxConfig → List MuxElement → Option MuxConfig
in_force_behind before [] = before
in_force_behind before (e ∷ es) = in_force_behind (then_in_force before e.config) es

-- These are the most elements that a front of the text is, and that is what remains of the text.
pub record IsLongest (text : List ℕ) (elements : List MuxElement) (rest : List ℕ) : Type 0 where
  pub carried : Carries None text elements rest
  pub longest : (others : List MuxElement) (remains : List ℕ) → Carries None text others remains → length others ≤ length elements
