-- What a target of an insertion becomes: its access unit with a preroll in part 0, which was absent (ISO/IEC 23003-3,
-- UsacExtElement and AudioPreRoll).
use Rattle.std.specs.Prelude.{◌≡◌, ℕ, ◌<◌, ◌≤◌, Bool, List, length, slice_get, Option, Some, None}
use Rattle.std.specs.List.{AllByRecursion}
use Rattle.layout.specs.Text.{bits_of, pad}
use Rattle.usac_cfg.specs.declared.usac_config.UsacConfig.{UsacConfig}
use Rattle.usac_frame.specs.declared.frame.Frame.{Frame}
use Rattle.usac_frame.specs.declared.part.ExtPart.TheVariants.{Absent}
use Rattle.usac_frame.specs.AccessUnit.{IsFrame, frame_of}
use Rattle.usac_frame.specs.Frame.{frame_text}
use Rattle.preroll.specs.declared.preroll.PreRoll.{PreRoll}
use Rattle.preroll.specs.PreRoll.{preroll_text}
use Rattle.ipf_frame.specs.Frames.{with_first, frame_bytes, new_part}
use Rattle.ipf_frame.specs.Payload.{new_payload, IsNewPreRoll}

abbrev pub slot_where : UsacConfig → List ℕ → List ℕ → Option Frame → List ℕ
slot_where c payload au None = au
slot_where c payload au (Some f) = frame_bytes c (with_first (new_part payload) f)

-- the access unit with this payload in part 0
unfoldable pub slot_with : UsacConfig → List ℕ → List ℕ → List ℕ
slot_with c payload au = slot_where c payload au (frame_of c au)

-- a target that carries these access units
unfoldable pub new_slot : UsacConfig → Bool → List (List ℕ) → List ℕ → List ℕ
new_slot c fade aus au = slot_with c (new_payload c fade aus) au

-- part 0 is there, and is absent
abbrev pub IsOpen : Frame → Type 0
IsOpen f = slice_get f.leading 0 ≡ Some Absent

-- The same as a relation on bits: a target's access unit, before and behind.
pub record IsTarget (c : UsacConfig) (fade : Bool) (aus : List (List ℕ)) (au new : List ℕ) : Type 0 where
  pub frame : Frame
  pub is : IsFrame c au frame
  pub absent : IsOpen frame
  pub preroll : PreRoll
  pub carries : IsNewPreRoll c fade aus preroll
  pub payload : List ℕ
  pub bytes : AllByRecursion (λ b. b < 256) payload
  pub spelled : bits_of payload ≡ pad (preroll_text preroll)
  pub few : length payload ≤ 65788
  pub text : bits_of new ≡ pad (frame_text c (with_first (new_part payload) frame))
