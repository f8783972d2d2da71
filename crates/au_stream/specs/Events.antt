-- What a call for the next frame answers, by the bytes of the source.
use Rattle.std.specs.Prelude.{◌≡◌, ℕ, ◌+◌, ◌≤◌, Bool, true, List, [], ◌∷◌, ◌++◌, length, Result, Ok, Err}
use Rattle.std.specs.Prelude.{Some, None}
use Rattle.std.specs.declared.option.Option.{Option}
use Rattle.std.specs.Io.KnownBytes.{prepend_known, IsAtEnd}
use Rattle.loas.specs.declared.fault.LoasFault.TheVariants as loas
use Rattle.au_stream.specs.declared.event.Event.{Event}
use Rattle.au_stream.specs.declared.fault.StreamFault.{StreamFault}
use Rattle.au_stream.specs.declared.fault.StreamFault.TheVariants.{ReadFault, TooLarge, Loas, Mux, Memory}
use Rattle.au_stream.specs.Frames.{Frame, last_of, TellsChange}
use Rattle.au_stream.specs.Script.{Mark, End, SyncLost, BadElement, Truncated, HasFrames, IsScript, IsOpen, most_bytes}
use Rattle.au_stream.specs.Script.{TooLarge as MarkTooLarge}
use Rattle.au_stream.specs.Reading.{Reading, HasRead}
use Rattle.au_stream.specs.Taking.{Seen, IsNeeded}

-- the event of a frame behind those that were given
pub record IsEvent (given : List Frame) (f : Frame) (event : Event) : Type 0 where
  pub number : event.frame ≡ length given
  pub changed : TellsChange event.changed (last_of given) f
  pub opens : event.opens ≡ f.opens
  pub au : event.au ≡ f.au

-- The stream is refused at that mark.
abbrev pub RefusesAt : List ℕ → List Frame → StreamFault → Type 0
RefusesAt text given ReadFault = ⊥
RefusesAt text given TooLarge = IsScript text given MarkTooLarge
RefusesAt text given (Loas (loas.SyncLost byte)) = IsScript text given (SyncLost byte)
RefusesAt text given (Loas (loas.Truncated byte)) = IsScript text given (Truncated byte)
RefusesAt text given (Loas (loas.Memory e)) = ⊥
RefusesAt text given (Mux frame fault) = IsScript text given (BadElement frame fault)
RefusesAt text given (Memory e) = ⊥

-- How a call answers where these frames were given, the source has that text in all, and of it those bytes were taken.
abbrev pub Answers : List ℕ → List ℕ → List Frame → Result (Option Event) StreamFault → Type 0
-- the next frame
Answers text taken given (Ok (Some event)) = (f : Frame) × (later : List Frame) × HasFrames text (given ++ f ∷ later) × IsEvent given f event
-- all were given
Answers text taken given (Ok None) = IsScript text given End
-- the bytes that were taken have no more
Answers text taken given (Err ReadFault) = (mark : Mark) × IsScript taken given mark × IsOpen mark
Answers text taken given (Err (Memory e)) = (later : List Frame) × HasFrames text (given ++ later)
Answers text taken given (Err fault) = RefusesAt text given fault

-- the frames that were given behind a call
abbrev pub GivenBy : Result (Option Event) StreamFault → List ℕ → List Frame → Reading → Type 0
GivenBy (Ok (Some event)) taken given new = (f : Frame) × IsEvent given f event × HasRead taken (given ++ f ∷ []) new
GivenBy (Ok None) taken given new = HasRead taken given new
GivenBy (Err fault) taken given new = Unit {0}

-- What a call did where these bytes had been got off the source, and these frames given.
pub record Reads (got : List ℕ) (given : List Frame) (old new : Reading) (before now : Seen) (result : Result (Option Event) StreamFault) : Type 0 where
  -- the bytes that it got, also where the source does not tell its bytes
  pub more : List ℕ
  pub from : before.left ≡ prepend_known more now.left
  pub within : length (got ++ more) ≤ most_bytes + 1
  -- no more were read where a whole LOAS frame was held
  pub needed : IsNeeded old.framer.held more
  -- whether the source was seen to be at its end
  pub ended : Bool
  pub at_end : ended ≡ true → IsAtEnd now.left
  -- However the source goes on behind those bytes, the answer is that of all its bytes.
  pub answers : (rest : List ℕ) → (ended ≡ true → rest ≡ []) → Answers ((got ++ more) ++ rest) (got ++ more) given result
  pub leaves : GivenBy result (got ++ more) given new
