-- What a reader of access units holds, and what it has given.
use Rattle.std.specs.Prelude.{◌≡◌, ℕ, ◌<◌, ◌≤◌, Bool, false, List, [], ◌∷◌, ◌++◌, length, Option, None}
use Rattle.std.specs.Option.{option_map}
use Rattle.latm.specs.declared.mux_config.MuxConfig.{MuxConfig}
use Rattle.latm.specs.declared.mux_element.MuxElement.{MuxElement}
use Rattle.loas.specs.Framer.{Framer, pushed}
use Rattle.au_stream.specs.Script.{most_bytes}
use Rattle.au_stream.specs.Elements.{Carries, in_force_behind}
use Rattle.au_stream.specs.Frames.{Frame, frames_from, frames_under, last_of, TellsChange}

pub record Reading : Type 0 where
  -- the bytes that were got and belong to no element that was read
  pub framer : Framer
  -- the configuration in force
  pub in_force : Option MuxConfig
  -- the access units of the last element that are still to be given, and whether the first of them opens
  pub pending : List (List ℕ)
  pub opens : Bool
  -- whether the configuration changes at the first of them
  pub changed : Bool
  -- how many frames were given
  pub count : ℕ
  -- a call was refused
  pub failed : Bool

-- the frames that are still to be given of the last element
abbrev pub pending_frames : Reading → List Frame
pending_frames r = frames_under r.in_force r.opens r.pending

-- whether the next frame is a change is known
abbrev pub KnowsChange : Option Frame → List Frame → Bool → Type 0
KnowsChange before [] changed = Unit {0}
KnowsChange before (f ∷ fs) changed = TellsChange changed before f

-- These bytes were got in all, and these frames were given; no call was refused.
pub record Holds (got : List ℕ) (given : List Frame) (r : Reading) : Type 0 where
  pub elements : List MuxElement
  pub carried : Carries None got elements r.framer.held
  pub in_force : r.in_force ≡ in_force_behind None elements
  pub some : r.in_force ≡ None → r.pending ≡ []
  pub frames : frames_from None elements ≡ given ++ pending_frames r
  pub change : KnowsChange (last_of given) (pending_frames r) r.changed
  pub counted : r.count ≡ length given
  pub pushed : pushed r.framer ≡ length got
  pub few : length got ≤ most_bytes
  pub going : r.failed ≡ false

-- The same between two calls: the configuration in force is that of the last frame.
pub record HasRead (got : List ℕ) (given : List Frame) (r : Reading) : Type 0 where
  pub holds : Holds got given r
  pub last : r.in_force ≡ option_map (λ f. f.mux) (last_of given)
  -- fewer bytes than one read may bring were got behind the elements that were read
  pub ahead : length r.framer.held < 8192
  -- the last of the frames is one of the last of these elements
  pub newest : (front : List MuxElement) (e : MuxElement) → holds.elements ≡ front ++ e ∷ [] → length (frames_from None front) < length given
