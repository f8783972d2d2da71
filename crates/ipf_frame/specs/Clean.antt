-- An access unit as a preroll carries it (ISO/IEC 23003-3, AudioPreRoll): without a preroll of its own.
use Rattle.std.specs.Prelude.{◌≡◌, ℕ, Bool, true, false, List, Option, Some, None, ◌==◌, if◌then◌else◌}
use Rattle.layout.specs.Text.{bits_of, pad}
use Rattle.usac_cfg.specs.declared.usac_config.UsacConfig.{UsacConfig}
use Rattle.usac_frame.specs.declared.frame.Frame.{Frame}
use Rattle.usac_frame.specs.declared.part.ExtPart.TheVariants.{Absent}
use Rattle.usac_frame.specs.AccessUnit.{IsFrame, frame_of}
use Rattle.usac_frame.specs.Frame.{frame_text}
use Rattle.usac_frame.specs.Units.{payload_length}
use Rattle.ipf_frame.specs.Frames.{with_first, frame_bytes}

-- itself, or, where it has bytes of preroll, its frame with part 0 absent
abbrev pub clean_where : UsacConfig → List ℕ → Option Frame → List ℕ
clean_where c au None = au
clean_where c au (Some f) = if payload_length c f == 0 then au else frame_bytes c (with_first Absent f)

-- the access unit as it is carried
unfoldable pub clean : UsacConfig → List ℕ → List ℕ
clean c au = clean_where c au (frame_of c au)

abbrev pub IsCleanText : Bool → UsacConfig → Frame → List ℕ → List ℕ → Type 0
IsCleanText true c f au bytes = bytes ≡ au
IsCleanText false c f au bytes = bits_of bytes ≡ pad (frame_text c (with_first Absent f))

-- The same as a relation on bits: the bytes are the access unit, a frame, as it is carried.
pub record IsClean (c : UsacConfig) (au bytes : List ℕ) : Type 0 where
  pub frame : Frame
  pub is : IsFrame c au frame
  pub text : IsCleanText (payload_length c frame == 0) c frame au bytes
