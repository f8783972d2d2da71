-- A reader whose access units still stand in the LOAS frame that it holds.
use Rattle.std.specs.Prelude.{◌≡◌, ℕ, ◌+◌, ◌*◌, ◌≤◌, false, List, [], ◌∷◌, length, take, drop, Option, Result, Ok, Err}
use Rattle.layout.specs.Text.{bits_of}
use Rattle.loas.specs.Framing.{BeginsWithFrame}
use Rattle.loas.specs.Framer.{Framer, past_frame}
use Rattle.latm.specs.declared.mux_config.MuxConfig.{MuxConfig}
use Rattle.latm.specs.declared.mux_element.MuxElement.{MuxElement}
use Rattle.latm.specs.declared.slot_place.SlotPlace.{SlotPlace}
use Rattle.latm.specs.Places.{AreWithin, slots_at}
use Rattle.au_stream.specs.declared.event.Event.{Event}
use Rattle.au_stream.specs.declared.fault.StreamFault.{StreamFault}
use Rattle.au_stream.specs.Elements.{IsElement}
use Rattle.au_stream.specs.Reading.{Reading}
use Rattle.au_stream.specs.Giving.{TookElement, Unread, Gave, past}

-- the bytes of the element in the frame at the front
abbrev pub front_body : ℕ → Framer → List ℕ
front_body n framer = take n (drop 3 framer.held)

-- the framer behind the elements that were read: the frame at the front is held while slots of it are still to be given
abbrev pub behind_read : List SlotPlace → ℕ → Framer → Framer
behind_read [] n framer = framer
behind_read (p ∷ places) n framer = past_frame n framer

-- the slots at these places of the element at the front
abbrev pub slots_of : List SlotPlace → ℕ → Framer → List (List ℕ)
slots_of places n framer = slots_at (bits_of (front_body n framer)) places

-- These places are in the frame at the front.
abbrev pub AreHeld : List SlotPlace → ℕ → Framer → Type 0
AreHeld [] n framer = Unit {0}
AreHeld (p ∷ places) n framer = BeginsWithFrame n framer.held × AreWithin (8 * n) (p ∷ places)

-- Of the slots of an element so many were given; the others are in the frame at the front.
pub record HoldsSlots (slots : List SlotPlace) (given n count : ℕ) (framer : Framer) : Type 0 where
  pub few : length slots ≤ 8191
  pub within : given ≤ length slots
  pub held : AreHeld (drop given slots) n framer
  -- there are no more frames than bytes
  pub counted : count + length (drop given slots) ≤ (behind_read (drop given slots) n framer).passed

-- The slots of the element at the front were found, and its configuration is not yet in force.
pub record FoundSlots (n : ℕ) (old new : Reading) (config : Option MuxConfig) : Type 0 where
  pub whole : MuxElement
  pub is : IsElement old.in_force whole (front_body n old.framer)
  pub own : config ≡ whole.config
  pub left : new ≡ record (past n old) { pending = whole.slots }
  -- nothing is known yet of the next frame
  pub shut : old.opens ≡ false
  pub still : old.changed ≡ false

abbrev pub FindsSlots : ℕ → Reading → Reading → Result (Option MuxConfig) StreamFault → Type 0
FindsSlots n old new (Ok config) = FoundSlots n old new config
FindsSlots n old new (Err fault) = (new ≡ old) × Unread n old fault

-- the slot that is next to be given
pub record IsNext (r : Reading) (au : List ℕ) : Type 0 where
  pub rest : List (List ℕ)
  pub pending : r.pending ≡ au ∷ rest

-- It was passed.
pub record Passed (old new : Reading) : Type 0 where
  pub slot : List ℕ
  pub rest : List (List ℕ)
  pub pending : old.pending ≡ slot ∷ rest
  pub left : new ≡ record old { pending = rest; count = old.count + 1 }

-- The element at the front was read, and its first access unit given.
pub record Opened (n : ℕ) (old new : Reading) (event : Event) : Type 0 where
  pub between : Reading
  pub took : TookElement n old between
  pub gave : Gave between new event
