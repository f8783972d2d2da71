-- Frames with another part 0, the part of the preroll element (ISO/IEC 23003-3, UsacExtElement).
use Rattle.std.specs.Prelude.{ℕ, List, [], ◌∷◌, length, true, nat_lt, if◌then◌else◌}
use Rattle.layout.specs.Text.{pad}
use Rattle.usac_cfg.specs.declared.usac_config.UsacConfig.{UsacConfig}
use Rattle.usac_frame.specs.declared.frame.Frame.{Frame}
use Rattle.usac_frame.specs.declared.part.ExtPart.{ExtPart}
use Rattle.usac_frame.specs.declared.part.ExtPart.TheVariants.{Present}
use Rattle.usac_frame.specs.declared.part.LengthForm.{LengthForm}
use Rattle.usac_frame.specs.declared.part.LengthForm.TheVariants.{Byte, Long}
use Rattle.usac_frame.specs.Frame.{frame_text}
use Rattle.latm.specs.Bytes.{bytes_of}

-- the parts with another first one, where there is one
abbrev pub first_part : ExtPart → List ExtPart → List ExtPart
first_part p [] = []
first_part p (q ∷ qs) = p ∷ qs

-- a frame with another part 0
abbrev pub with_first : ExtPart → Frame → Frame
with_first p f = record { independent = f.independent; leading = first_part p f.leading; rest = f.rest }

-- the bytes of a frame: its spelling, and the fewest zero bits that fill the last byte
unfoldable pub frame_bytes : UsacConfig → Frame → List ℕ
frame_bytes c f = bytes_of (pad (frame_text c f))

-- the form of a new part's length: 8 bits up to 254 bytes, and else the long one
abbrev pub form_of : ℕ → LengthForm
form_of n = if nat_lt 254 n then Long else Byte

-- a new part, of a payload that begins and ends in the frame
abbrev pub new_part : List ℕ → ExtPart
new_part payload = Present (form_of (length payload)) true true payload
