-- How far a source is read when a frame is given.
use Rattle.std.specs.Prelude.{ℕ, ◌+◌, ◌<◌, ◌≤◌, List, [], ◌∷◌, ◌++◌, length, take}
use Rattle.std.specs.Prelude.{None}
use Rattle.latm.specs.declared.mux_element.MuxElement.{MuxElement}
use Rattle.au_stream.specs.Elements.{Carries}
use Rattle.au_stream.specs.Frames.{Frame, frames_from}
use Rattle.au_stream.specs.Reading.{Reading, HasRead}

-- The element that ends behind so many bytes of the text has the frame with that number.
pub record EndsElementOf (text : List ℕ) (number end : ℕ) : Type 0 where
  pub earlier : List MuxElement
  pub own : MuxElement
  pub within : end ≤ length text
  pub carried : Carries None (take end text) (earlier ++ own ∷ []) []
  -- the elements before it do not have the frame
  pub not_before : length (frames_from None earlier) ≤ number
  pub has : number < length (frames_from None (earlier ++ own ∷ []))

-- Of these bytes fewer than 8192 stand behind the element with that frame.
abbrev pub IsNearFrame : List ℕ → ℕ → Type 0
IsNearFrame taken number = (end : ℕ) × EndsElementOf taken number end × (length taken < end + 8192)

-- Where a reader has just given a frame, it got fewer than 8192 bytes behind the element with that frame.
abbrev pub ReadsNear : Type 0
ReadsNear = (got : List ℕ) (given : List Frame) (f : Frame) (r : Reading) → HasRead got (given ++ f ∷ []) r → IsNearFrame got (length given)
