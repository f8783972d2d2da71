-- What a command on a source has done so far, and what it has done at its end, whether the source tells its bytes or not.
use Rattle.std.specs.Prelude.{◌≡◌, ℕ, ◌+◌, ◌≤◌, Bool, true, List, [], ◌++◌, length, Some, Result, Ok, Err}
use Rattle.std.specs.declared.option.Option.{Option}
use Rattle.std.specs.Io.KnownBytes.{prepend_known, append_known, IsAtEnd}
use Rattle.core_iface.specs.Answering.{Meaning}
use Rattle.tool_text.specs.declared.refusal.Refusal.{Refusal}
use Rattle.tool_text.specs.declared.refusal.Within.{Within}
use Rattle.tool_text.specs.RefusalText.{refusal_text}
use Rattle.tool_text.specs.Faults.{refusal_of_loas, refusal_of_mux}
use Rattle.au_stream.specs.declared.fault.StreamFault.{StreamFault}
use Rattle.au_stream.specs.declared.fault.StreamFault.TheVariants as streams
use Rattle.au_stream.specs.Frames.{Frame}
use Rattle.au_stream.specs.Script.{most_bytes, End}
use Rattle.au_stream.specs.Reading.{Reading, HasRead}
use Rattle.commands.specs.declared.frame_end.FrameEnd.{FrameEnd}
use Rattle.commands.specs.declared.frame_end.FrameEnd.TheVariants as frames
use Rattle.commands.specs.declared.outcome.Outcome.{Outcome}
use Rattle.commands.specs.declared.outcome.Outcome.TheVariants as is
use Rattle.commands.specs.Commands.{Command, TakesAll, TakesEnd, work}
use Rattle.commands.specs.Ending.{Traces, Ends, Passes}

-- Between two frames: those that were given were taken and handled, and this holds behind them.
pub record GoesOn (c : Command) (Holds : List Frame → Type 0) (old now : Meaning) (left_before left_now before written : Option (List ℕ)) (reader : Reading) : Type 0 where
  pub given : List Frame
  pub got : List ℕ
  pub from : left_before ≡ prepend_known got left_now
  pub read : HasRead got given reader
  pub takes : TakesAll c [] given
  pub holds : Holds given
  pub fed : now.fed ≡ old.fed + work c given
  pub output : written ≡ append_known before (c.output given)

-- What a command on a source did, that ends so by the text of the source and the bytes that were taken of it.
pub record DoesSource (Ends : List ℕ → List ℕ → Traces → Outcome → Type 0) (left_before left_after : Option (List ℕ)) (t : Traces) (outcome : Outcome) : Type 0 where
  -- the bytes that were taken of it, also where it does not tell its bytes
  pub taken : List ℕ
  pub from : left_before ≡ prepend_known taken left_after
  pub within : length taken ≤ most_bytes + 1
  -- whether it was seen to be at its end
  pub ended : Bool
  pub at_end : ended ≡ true → IsAtEnd left_after
  -- However the source goes on behind those bytes, this is how the command ends on all of them.
  pub ends : (rest : List ℕ) → (ended ≡ true → rest ≡ []) → Ends (taken ++ rest) taken t outcome

-- a refusal, or no memory for its text
abbrev pub IsRefusedBy : Option Within → Option Refusal → Outcome → Type 0
IsRefusedBy within r is.Done = ⊥
IsRefusedBy within r (is.Refused words) = (refusal : Refusal) × (r ≡ Some refusal) × (words ≡ refusal_text within refusal)
IsRefusedBy within r is.ReadFault = ⊥
IsRefusedBy within r is.WriteFault = ⊥
IsRefusedBy within r is.CoreFault = ⊥
IsRefusedBy within r (is.Memory e) = Unit {0}
IsRefusedBy within r is.TooLarge = ⊥

-- what the command ends with where the stream has no next frame
abbrev pub Becomes : Option Within → StreamFault → Outcome → Type 0
Becomes within streams.ReadFault outcome = outcome ≡ is.ReadFault
Becomes within streams.TooLarge outcome = outcome ≡ is.TooLarge
Becomes within (streams.Loas fault) outcome = IsRefusedBy within (refusal_of_loas fault) outcome
Becomes within (streams.Mux frame fault) outcome = IsRefusedBy within (refusal_of_mux frame fault) outcome
Becomes within (streams.Memory e) outcome = outcome ≡ is.Memory e

-- what it ends with at a frame that was not handled
abbrev pub BecomesOf : Option Within → FrameEnd → Outcome → Type 0
BecomesOf within (frames.Refused refusal) outcome = IsRefusedBy within (Some refusal) outcome
BecomesOf within frames.WriteFault outcome = outcome ≡ is.WriteFault
BecomesOf within frames.CoreFault outcome = outcome ≡ is.CoreFault
BecomesOf within (frames.Memory e) outcome = outcome ≡ is.Memory e

-- what the command ends with at the end of the stream
abbrev pub BecomesOfEnd : Option Within → Result (Unit {0}) FrameEnd → Outcome → Type 0
BecomesOfEnd within (Ok _) outcome = outcome ≡ is.Done
BecomesOfEnd within (Err end) outcome = BecomesOf within end outcome

-- the shelf refused to begin the input
abbrev pub IsNotBegun : Outcome → Type 0
IsNotBegun is.Done = ⊥
IsNotBegun (is.Refused words) = ⊥
IsNotBegun is.ReadFault = Unit {0}
IsNotBegun is.WriteFault = ⊥
IsNotBegun is.CoreFault = ⊥
IsNotBegun (is.Memory e) = Unit {0}
IsNotBegun is.TooLarge = ⊥

-- These are the frames of the file, and all of them were handled.
pub record Handed (c : Command) (frames : List Frame) (text : List ℕ) : Type 0 where
  pub passes : Passes c text frames End
  pub takes : TakesEnd c frames

-- how a command on frames ends, which handled these where all is done
abbrev pub EndsHanding : Command → List Frame → List ℕ → List ℕ → Traces → Outcome → Type 0
EndsHanding c frames text taken t outcome = Ends c text taken t outcome × (outcome ≡ is.Done → Handed c frames text)

-- What a command on the frames of a source did; where all is done, this holds behind them.
pub record DoesFrames (c : Command) (Holds : List Frame → Type 0) (left_before left_after : Option (List ℕ)) (t : Traces) (outcome : Outcome) : Type 0 where
  pub frames : List Frame
  pub holds : outcome ≡ is.Done → Holds frames
  pub does : DoesSource (EndsHanding c frames) left_before left_after t outcome
