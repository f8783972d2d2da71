-- A frame without its rest, which is all bits behind the parts and never at fault.
use Rattle.std.specs.Prelude.{◌≡◌, ℕ, Bool, false, List, length, Result, Ok, Err}
use Rattle.layout.specs.Text.{bits_of}
use Rattle.layout.specs.Reader.{Reader, left, moved}
use Rattle.layout.specs.Reading.{IsOnwards}
use Rattle.usac_cfg.specs.declared.usac_config.UsacConfig.{UsacConfig}
use Rattle.usac_frame.specs.declared.fault.FrameFault.{FrameFault}
use Rattle.usac_frame.specs.declared.frame.Frame.{Frame}
use Rattle.usac_frame.specs.declared.head.FrameHead.{FrameHead}
use Rattle.usac_frame.specs.Faults.{is_memory}
use Rattle.usac_frame.specs.Frame.{frame, frame_text, FitsConfig, FrameFaults}
use Rattle.usac_frame.specs.AccessUnit.{IsFrame}

-- the frame of a head and a rest
abbrev pub with_rest : FrameHead → List Bool → Frame
with_rest h rest = record { independent = h.independent; leading = h.leading; rest = rest }

-- What the reading function of frames gives, where all that is left is the rest.
abbrev pub GivesHead : UsacConfig → Reader → Reader → Result FrameHead FrameFault → Type 0
GivesHead c old new (Ok h) = (let L = frame c in L.read old ≡ Ok (with_rest h (left new), moved new (length (left new)))) × IsOnwards old new
GivesHead c old new (Err f) = (is_memory f ≡ false → let L = frame c in L.read old ≡ Err f) × IsOnwards old new

-- The access unit is a frame with this head, or the fault is its first one, or memory fails.
abbrev pub ReadsHead : UsacConfig → List ℕ → Result FrameHead FrameFault → Type 0
ReadsHead c au (Ok h) = (rest : List Bool) × IsFrame c au (with_rest h rest)
ReadsHead c au (Err f) = is_memory f ≡ false → FrameFaults c f (bits_of au)

-- The same of what is left to a reader: a frame with this head is spelled there, or this is the first fault.
abbrev pub ReadsHeadAt : UsacConfig → Reader → Result FrameHead FrameFault → Type 0
ReadsHeadAt c r (Ok h) = (rest : List Bool) × FitsConfig c (with_rest h rest) × (left r ≡ frame_text c (with_rest h rest))
ReadsHeadAt c r (Err f) = is_memory f ≡ false → let L = frame c in L.Faults r.at f (left r)
