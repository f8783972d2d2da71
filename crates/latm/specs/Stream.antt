-- The frames of a stream (ISO/IEC 14496-3, AudioMuxElement): its slots in their order, each with the UsacConfig in force.
use Rattle.std.specs.Prelude.{◌≡◌, ℕ, ◌^◌, ◌%◌, ◌<◌, ◌≤◌, List, [], ◌∷◌, ◌++◌, length, map, Option, None, Some}
use Rattle.usac_cfg.specs.declared.usac_config.UsacConfig.{UsacConfig}
use Rattle.latm.specs.declared.mux_config.MuxConfig.{MuxConfig}
use Rattle.latm.specs.declared.mux_element.MuxElement.{MuxElement}
use Rattle.latm.specs.declared.stream.Stream.{Stream}
use Rattle.latm.specs.MuxElement.{element, then_in_force}
use Rattle.latm.specs.Written.{element_text}

-- the frames of slots where a configuration is in force, or nothing
abbrev pub slots_under : Option MuxConfig → List (List ℕ) → List (UsacConfig × List ℕ)
slots_under None slots = []
slots_under (Some m) slots = map (λ au. (m.asc.usac, au)) slots

-- the frames of elements behind what is in force
abbrev pub slots_from : Option MuxConfig → List MuxElement → List (UsacConfig × List ℕ)
slots_from before [] = []
slots_from before (e ∷ es) = slots_under (then_in_force before e.config) e.slots ++ slots_from (then_in_force before e.config) es

abbrev pub frames_of : Stream → List (UsacConfig × List ℕ)
frames_of s = slots_from None s.elements

-- It is an element under the configuration in force before it; and it makes whole bytes, of which a LOAS frame counts 8191 at most.
pub record IsElementOf (before : Option MuxConfig) (e : MuxElement) : Type 0 where
  pub fits : (let L = element before in L.Fits e)
  pub whole : length (element_text e) % 8 ≡ 0
  pub few : length (element_text e) ≤ 65528

-- each element is one under the configuration that those before it leave in force
abbrev pub AreElements : Option MuxConfig → List MuxElement → Type 0
AreElements before [] = Unit {0}
AreElements before (e ∷ es) = IsElementOf before e × AreElements (then_in_force before e.config) es

pub record IsWellFormed (s : Stream) : Type 0 where
  pub elements : AreElements None s.elements
  pub frames : length (frames_of s) < 2 ^ 32

abbrev pub config_in : UsacConfig × List ℕ → UsacConfig
config_in (config, au) = config

abbrev pub au_in : UsacConfig × List ℕ → List ℕ
au_in (config, au) = au
