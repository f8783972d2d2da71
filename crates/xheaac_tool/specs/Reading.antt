-- What reading the frame of an access unit answers, and the refusal of a frame that is too short.
use Rattle.std.specs.Prelude.{◌≡◌, ℕ, Bool, List, length, Result, Ok, Err}
use Rattle.layout.specs.Text.{bits_of}
use Rattle.usac_cfg.specs.declared.usac_config.UsacConfig.{UsacConfig}
use Rattle.usac_frame.specs.declared.frame.Frame.{Frame as UsacFrame}
use Rattle.usac_frame.specs.declared.fault.FrameFault.TheVariants as faults
use Rattle.usac_frame.specs.Frame.{FrameFaults}
use Rattle.usac_frame.specs.declared.head.FrameHead.{FrameHead}
use Rattle.usac_frame.specs.Head.{with_rest}
use Rattle.usac_frame.specs.AccessUnit.{IsFrame}
use Rattle.tool_text.specs.declared.refusal.Place.TheVariants as places
use Rattle.tool_text.specs.declared.refusal.Reason.TheVariants as reasons
use Rattle.tool_text.specs.declared.refusal.Refusal.{Refusal}
use Rattle.au_stream.specs.Frames.{Frame, config_of}
use Rattle.commands.specs.declared.frame_end.FrameEnd.{FrameEnd}
use Rattle.commands.specs.declared.frame_end.FrameEnd.TheVariants as ends

-- The access unit of a frame is no frame of its configuration, and has its first fault at that bit.
pub record IsTooShort (before : List Frame) (f : Frame) (r : Refusal) : Type 0 where
  pub at : ℕ
  pub fault : FrameFaults (config_of f) (faults.Short at) (bits_of f.au)
  pub refusal : r ≡ record { place = places.FrameBit (length before) at; reason = reasons.FrameTooShort }

-- The frame that the access unit with that number is, or its first fault as a refusal, or out of memory.
abbrev pub ReadsUnit : ℕ → UsacConfig → List ℕ → Result UsacFrame FrameEnd → Type 0
ReadsUnit number c au (Ok g) = IsFrame c au g
ReadsUnit number c au (Err (ends.Refused r)) =
    (at : ℕ) × FrameFaults c (faults.Short at) (bits_of au) × (r ≡ record { place = places.FrameBit number at; reason = reasons.FrameTooShort })
ReadsUnit number c au (Err ends.WriteFault) = ⊥
ReadsUnit number c au (Err ends.CoreFault) = ⊥
ReadsUnit number c au (Err (ends.Memory e)) = Unit {0}

-- The same of a head: the access unit is a frame with that head.
abbrev pub ReadsUnitHead : ℕ → UsacConfig → List ℕ → Result FrameHead FrameEnd → Type 0
ReadsUnitHead number c au (Ok h) = (rest : List Bool) × IsFrame c au (with_rest h rest)
ReadsUnitHead number c au (Err end) = ReadsUnit number c au (Err end)

-- not a fault of a device or of the core
abbrev pub IsJudgement : FrameEnd → Type 0
IsJudgement (ends.Refused r) = Unit {0}
IsJudgement ends.WriteFault = ⊥
IsJudgement ends.CoreFault = ⊥
IsJudgement (ends.Memory e) = Unit {0}
