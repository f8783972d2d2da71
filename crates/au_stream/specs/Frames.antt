-- The frames of elements: one access unit each.
use Rattle.std.specs.Prelude.{◌≡◌, ◌≢◌, ℕ, Bool, false, IsTrue, List, [], ◌∷◌, ◌++◌, Option, Some, None, is_some}
use Rattle.usac_cfg.specs.declared.usac_config.UsacConfig.{UsacConfig}
use Rattle.latm.specs.declared.mux_config.MuxConfig.{MuxConfig}
use Rattle.latm.specs.declared.mux_element.MuxElement.{MuxElement}
use Rattle.latm.specs.MuxElement.{then_in_force}

pub record Frame : Type 0 where
  -- the StreamMuxConfig in force
  pub mux : MuxConfig
  -- the frame is the first of an element that has a StreamMuxConfig
  pub opens : Bool
  -- the access unit
  pub au : List ℕ

-- its UsacConfig (ISO/IEC 23003-3)
abbrev pub config_of : Frame → UsacConfig
config_of f = f.mux.asc.usac

-- the frames of slots, the first of which opens or does not
abbrev pub frames_under : Option MuxConfig → Bool → List (List ℕ) → List Frame
frames_under None opens slots = []
frames_under (Some m) opens [] = []
frames_under (Some m) opens (au ∷ aus) = record { mux = m; opens = opens; au = au } ∷ frames_under (Some m) false aus

-- the frames of elements, where `before` is in force
abbrev pub frames_from : Option MuxConfig → List MuxElement → List Frame
frames_from before [] = []
frames_from before (e ∷ es) =
    frames_under (then_in_force before e.config) (is_some e.config) e.slots ++ frames_from (then_in_force before e.config) es

-- the last frame, where there is one
abbrev pub last_of : List Frame → Option Frame
last_of [] = None
last_of (f ∷ []) = Some f
last_of (f ∷ g ∷ fs) = last_of (g ∷ fs)

-- The frame is the first one, or its UsacConfig is not that of the frame before.
abbrev pub IsChange : Option Frame → Frame → Type 0
IsChange None f = Unit {0}
IsChange (Some before) f = config_of before ≢ config_of f

-- The frame is not the first one, and its UsacConfig is that of the frame before.
abbrev pub IsSame : Option Frame → Frame → Type 0
IsSame None f = ⊥
IsSame (Some before) f = config_of before ≡ config_of f

-- this tells which of the two it is
abbrev pub TellsChange : Bool → Option Frame → Frame → Type 0
TellsChange changed before f = (IsTrue changed → IsChange before f) × (changed ≡ false → IsSame before f)
