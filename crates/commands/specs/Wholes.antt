-- What a command on a whole stream does: it reads all of its input, and then refuses it or writes.
use Rattle.std.specs.Prelude.{◌≡◌, ◌⊎◌, ℕ, false, List, Some, None}
use Rattle.latm.specs.declared.stream.Stream.{Stream}
use Rattle.tool_text.specs.declared.refusal.Refusal.{Refusal}
use Rattle.tool_text.specs.RefusalText.{refusal_text}
use Rattle.au_stream.specs.Frames.{Frame}
use Rattle.au_stream.specs.Script.{Mark, TooLarge, IsScript}
use Rattle.au_stream.specs.Whole.{IsStream, MayGoOn}
use Rattle.commands.specs.declared.outcome.Outcome.{Outcome}
use Rattle.commands.specs.declared.outcome.Outcome.TheVariants as is
use Rattle.commands.specs.Ending.{Traces, IsIdle, refusal_of_mark}
use Rattle.commands.specs.OneFrame.{DidEnd, DidEndPart}
use Rattle.commands.specs.OnInput.{OneInput, on_input}
use Rattle.commands.specs.Calling.{Effect}

pub record WholeCommand : Type 1 where
  -- why it refuses a stream
  pub Refuses : Stream → Refusal → Type 0
  -- what it writes for one that it does not refuse
  pub Writes : Stream → List ℕ → Type 0

-- The input is a stream that it takes; all of what it writes for it was written, and no unit was fed.
pub record WroteStream (w : WholeCommand) (text : List ℕ) (t : Traces) : Type 0 where
  pub stream : Stream
  pub is : IsStream text stream
  pub did : DidEnd (w.Refuses stream) (w.Writes stream) t.written_before t.written_after
  pub fed : t.fed_after ≡ t.fed_before

-- A front of that was written.
pub record WroteStreamFront (w : WholeCommand) (text : List ℕ) (t : Traces) : Type 0 where
  pub stream : Stream
  pub is : IsStream text stream
  pub did : DidEndPart (w.Refuses stream) (w.Writes stream) t.written_before t.written_after
  pub fed : t.fed_after ≡ t.fed_before

-- The input is a stream that it refuses.
pub record RefusesStream (w : WholeCommand) (text : List ℕ) (r : Refusal) : Type 0 where
  pub stream : Stream
  pub is : IsStream text stream
  pub refuses : w.Refuses stream r

-- The mark of the input is a refusal.
pub record IsMarkRefusal (text : List ℕ) (r : Refusal) : Type 0 where
  pub frames : List Frame
  pub mark : Mark
  pub script : IsScript text frames mark
  pub refusal : refusal_of_mark mark ≡ Some r

abbrev pub EndsWhole : WholeCommand → List ℕ → List ℕ → Traces → Outcome → Type 0
EndsWhole w text taken t is.Done = WroteStream w text t
EndsWhole w text taken t (is.Refused words) = (r : Refusal) × (RefusesStream w text r ⊎ IsMarkRefusal text r) × (words ≡ refusal_text None r) × IsIdle t
EndsWhole w text taken t is.ReadFault = MayGoOn taken × IsIdle t
EndsWhole w text taken t is.WriteFault = WroteStreamFront w text t
EndsWhole w text taken t is.CoreFault = ⊥
EndsWhole w text taken t (is.Memory e) = IsIdle t ⊎ WroteStreamFront w text t
EndsWhole w text taken t is.TooLarge = (frames : List Frame) × IsScript text frames TooLarge × IsIdle t

abbrev pub of_whole : WholeCommand → OneInput
of_whole w = record { Ends = EndsWhole w; Serves = λ text. Unit {0}; plays = false }

abbrev pub on_whole : WholeCommand → Effect
on_whole w = on_input (of_whole w)
