-- What is answered to a command on one file that writes nothing at the end of it, where no device and no core fails.
use Rattle.std.specs.Prelude.{◌≡◌, ℕ, List, ◌⊎◌}
use Rattle.std.specs.Io.KnownBytes.{append_known}
use Rattle.causes.specs.Counts.{Rose}
use Rattle.tool_text.specs.declared.refusal.Refusal.{Refusal}
use Rattle.tool_text.specs.RefusalText.{refusal_text}
use Rattle.au_stream.specs.Frames.{Frame}
use Rattle.au_stream.specs.Script.{End, TooLarge}
use Rattle.commands.specs.Causes.{Counts}
use Rattle.commands.specs.Commands.{Command, TakesEnd}
use Rattle.commands.specs.Ending.{Traces, IsRefused, Passes, OfFile}
use Rattle.commands.specs.Ran.{Notes, Noted}
use Rattle.commands.specs.Texts.{large_text}
use Rattle.commands.specs.Worlds.{World}

-- these bytes were written, and no others
abbrev pub WroteBytes : Traces → List ℕ → Type 0
WroteBytes t bytes = t.written_after ≡ append_known t.written_before bytes

-- Status 0: the command takes all frames of the file, their output was written, and nothing was noted.
pub record AnswersTaken (c : Command) (text : List ℕ) (frames : List Frame) (t : Traces) (n : Notes) (status : ℕ) : Type 0 where
  pub status_is : status ≡ 0
  pub passes : Passes c text frames End
  pub ends : TakesEnd c frames
  pub wrote : WroteBytes t (c.output frames)
  pub quiet : n.after ≡ n.before

-- Status 1: the file is refused behind these frames, whose output was written, and the line of the refusal was noted.
pub record AnswersRefused (c : Command) (text : List ℕ) (t : Traces) (n : Notes) (status : ℕ) : Type 0 where
  pub status_is : status ≡ 1
  pub frames : List Frame
  pub reason : Refusal
  pub refused : IsRefused c text frames reason t
  pub wrote : WroteBytes t (c.output frames)
  pub noted : Noted n (refusal_text c.within reason)

-- Status 7: the file has more bytes than count, and nothing in them is refused. The output of their frames was written.
pub record AnswersTooLarge (c : Command) (text : List ℕ) (t : Traces) (n : Notes) (status : ℕ) : Type 0 where
  pub status_is : status ≡ 7
  pub frames : List Frame
  pub passes : Passes c text frames TooLarge
  pub wrote : WroteBytes t (c.output frames)
  pub noted : Noted n large_text

-- What is answered to the command on a file with these bytes. Status 6, out of memory, is always free.
pub record AnswersFile (c : Command) (text : List ℕ) (t : Traces) (n : Notes) (status : ℕ) : Type 0 where
  -- No other answer comes than that of the file's frames.
  pub verdict : ((frames : List Frame) × AnswersTaken c text frames t n status) ⊎ (AnswersRefused c text t n status ⊎ (AnswersTooLarge c text t n status ⊎ (status ≡ 6)))
  -- So a file that no rule refuses, and that is not too large, is taken.
  pub taken : (frames : List Frame) → Passes c text frames End → TakesEnd c frames → AnswersTaken c text frames t n status ⊎ (status ≡ 6)

-- Shelf, out and core are calm, and the core serves what the command needs of the file's frames.
pub record AreCalm {H K C : Type 0} (c : Command) (text : List ℕ) (w : World H K C) : Type 0 where
  pub shelf : w.calm_shelf
  pub out : w.calm_out
  pub core : w.calm_core
  pub served : OfFile c c.Serves text

-- no count of faults rose
pub record NoneRose (before after : Counts) : Type 0 where
  pub shelf : Rose before.shelf after.shelf → ⊥
  pub out : Rose before.out after.out → ⊥
  pub core : Rose before.core after.core → ⊥
