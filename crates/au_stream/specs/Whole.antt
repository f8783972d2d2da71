-- What reading a source to its end answers, by its bytes.
use Rattle.std.specs.Prelude.{◌≡◌, ℕ, ◌+◌, ◌≤◌, ◌⊎◌, Bool, true, List, [], ◌++◌, length, take, None, Result, Ok, Err}
use Rattle.std.specs.Io.KnownBytes.{prepend_known, IsAtEnd}
use Rattle.latm.specs.Stream.{IsWellFormed}
use Rattle.latm.specs.declared.stream.Stream.{Stream}
use Rattle.au_stream.specs.declared.fault.StreamFault.{StreamFault}
use Rattle.au_stream.specs.declared.fault.StreamFault.TheVariants.{ReadFault, Memory}
use Rattle.au_stream.specs.Elements.{IsLongest}
use Rattle.au_stream.specs.Frames.{Frame, frames_from}
use Rattle.au_stream.specs.Script.{Mark, End, IsScript, IsOpen, most_bytes}
use Rattle.au_stream.specs.Taking.{Seen}
use Rattle.au_stream.specs.Events.{RefusesAt}

-- The input is the stream: its elements are the most that the input begins with, and nothing stands behind them.
pub record IsStream (text : List ℕ) (stream : Stream) : Type 0 where
  pub longest : IsLongest (take most_bytes text) stream.elements []
  pub script : IsScript text (frames_from None stream.elements) End
  pub well_formed : IsWellFormed stream

-- Bytes of which more may follow: their script is open.
pub record MayGoOn (text : List ℕ) : Type 0 where
  pub frames : List Frame
  pub mark : Mark
  pub script : IsScript text frames mark
  pub open_mark : IsOpen mark

-- How a source that has that text in all is answered, where those bytes of it were taken.
abbrev pub AnswersWhole : List ℕ → List ℕ → Result Stream StreamFault → Type 0
AnswersWhole text taken (Ok stream) = IsStream text stream
-- the bytes that were taken have no more
AnswersWhole text taken (Err ReadFault) = MayGoOn taken
AnswersWhole text taken (Err (Memory e)) = Unit {0}
AnswersWhole text taken (Err fault) = (frames : List Frame) × RefusesAt text frames fault

-- Nothing was got, or the last piece, of at most 8192 bytes, was got where more could follow.
abbrev pub IsNeededWhole : List ℕ → Type 0
IsNeededWhole got =
    (got ≡ []) ⊎ ((sooner piece : List ℕ) × (got ≡ sooner ++ piece) × MayGoOn sooner × (length piece ≤ 8192))

-- What the reading of a whole source did.
pub record ReadsWhole (before now : Seen) (result : Result Stream StreamFault) : Type 0 where
  -- the bytes that it got, also where the source does not tell its bytes
  pub got : List ℕ
  pub from : before.left ≡ prepend_known got now.left
  pub within : length got ≤ most_bytes + 1
  -- no more were read where the bytes that it had were refused
  pub needed : IsNeededWhole got
  -- whether the source was seen to be at its end
  pub ended : Bool
  pub at_end : ended ≡ true → IsAtEnd now.left
  -- However the source goes on behind those bytes, the answer is that of all its bytes.
  pub answers : (rest : List ℕ) → (ended ≡ true → rest ≡ []) → AnswersWhole (got ++ rest) got result
