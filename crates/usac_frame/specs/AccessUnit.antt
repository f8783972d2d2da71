-- The frame that an access unit is, and its unit (ISO/IEC 23003-3, UsacFrame).
use Rattle.std.specs.Prelude.{◌≡◌, ℕ, false, List, [], Option, Some, None}
use Rattle.layout.specs.Text.{bits_of}
use Rattle.layout.specs.Laws.{value_of}
use Rattle.usac_cfg.specs.declared.usac_config.UsacConfig.{UsacConfig}
use Rattle.usac_frame.specs.declared.frame.Frame.{Frame}
use Rattle.usac_frame.specs.Frame.{FitsConfig, frame, frame_text}
use Rattle.usac_frame.specs.FrameExact.{decided}
use Rattle.usac_frame.specs.Units.{UnitValue, unit_of}

-- These bytes are the frame: it fits the configuration, and they are its spelling.
pub record IsFrame (c : UsacConfig) (au : List ℕ) (f : Frame) : Type 0 where
  pub fits : FitsConfig c f
  pub spelled : bits_of au ≡ frame_text c f

-- The frame whose spelling an access unit is, if it is one.
unfoldable pub frame_of : UsacConfig → List ℕ → Option Frame
frame_of c au = value_of (frame c) (decided c) (bits_of au)

-- It is that frame exactly where the access unit is it.
pub record IsFrameOf : Type 0 where
  pub is : (c : UsacConfig) (au : List ℕ) (f : Frame) → frame_of c au ≡ Some f → IsFrame c au f
  pub found : (c : UsacConfig) (au : List ℕ) (f : Frame) → IsFrame c au f → frame_of c au ≡ Some f

abbrev pub unit_where : UsacConfig → Option Frame → UnitValue
unit_where c None = record { independent = false; bits = [] }
unit_where c (Some f) = unit_of c f

-- the unit of an access unit that is a frame
abbrev pub unit_in : UsacConfig → List ℕ → UnitValue
unit_in c au = unit_where c (frame_of c au)
