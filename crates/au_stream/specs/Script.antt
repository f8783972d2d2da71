-- The script of an input: its frames, and why no more follow.
use Rattle.std.specs.Prelude.{◌≡◌, ℕ, ◌+◌, ◌<◌, ◌≤◌, List, [], ◌++◌, length, take, Option, None}
use Rattle.layout.specs.Text.{bits_of}
use Rattle.loas.specs.Framing.{framed, IsFrameBody, IsPartial, HasWrongSync}
use Rattle.latm.specs.declared.fault.MuxFault.{MuxFault}
use Rattle.latm.specs.declared.mux_config.MuxConfig.{MuxConfig}
use Rattle.latm.specs.declared.mux_element.MuxElement.{MuxElement}
use Rattle.latm.specs.MuxElement.{element}
use Rattle.au_stream.specs.Elements.{IsLongest, in_force_behind}
use Rattle.au_stream.specs.Frames.{Frame, frames_from}

-- how many bytes of an input count
abbrev pub most_bytes : ℕ
most_bytes = 268435456

-- why no frame follows the last one
pub data Mark : Type 0 where
  -- the input ends there
  End : Mark
  -- no syncword stands at that byte
  SyncLost : (byte : ℕ) → Mark
  -- The next element, whose first frame has that number, has this fault.
  BadElement : (frame : ℕ) (fault : MuxFault) → Mark
  -- the input ends within the LOAS frame that begins at that byte
  Truncated : (byte : ℕ) → Mark
  -- there are more bytes than count
  TooLarge : Mark

-- Behind the most elements of the counted bytes, whose frames are so many, that rest stands for this reason.
abbrev pub IsMark : List ℕ → Option MuxConfig → ℕ → List ℕ → Mark → Type 0
IsMark text in_force frames rest End = (rest ≡ []) × (length text ≤ most_bytes)
IsMark text in_force frames rest (SyncLost byte) = HasWrongSync rest × (byte + length rest ≡ length (take most_bytes text))
IsMark text in_force frames rest (BadElement frame fault) =
    (body behind : List ℕ) × IsFrameBody body × (rest ≡ framed body ++ behind) × (let L = element in_force in L.Faults 0 fault (bits_of body)) × (frame ≡ frames)
IsMark text in_force frames rest (Truncated byte) = IsPartial rest × (0 < length rest) × (length text ≤ most_bytes) × (byte + length rest ≡ length text)
IsMark text in_force frames rest TooLarge = IsPartial rest × (most_bytes < length text)

-- the frames of the most elements that a front of the counted bytes is
pub record HasFrames (text : List ℕ) (frames : List Frame) : Type 0 where
  pub elements : List MuxElement
  pub rest : List ℕ
  pub longest : IsLongest (take most_bytes text) elements rest
  pub each : frames ≡ frames_from None elements

-- These are the frames of an input with these bytes, and that is why no more follow.
pub record IsScript (text : List ℕ) (frames : List Frame) (mark : Mark) : Type 0 where
  pub elements : List MuxElement
  pub rest : List ℕ
  pub longest : IsLongest (take most_bytes text) elements rest
  pub each : frames ≡ frames_from None elements
  pub ends : IsMark text (in_force_behind None elements) (length frames) rest mark

-- The input may have more frames: what is known of it ends where an element does, or within a LOAS frame.
abbrev pub IsOpen : Mark → Type 0
IsOpen End = Unit {0}
IsOpen (SyncLost byte) = ⊥
IsOpen (BadElement frame fault) = ⊥
IsOpen (Truncated byte) = Unit {0}
IsOpen TooLarge = ⊥
