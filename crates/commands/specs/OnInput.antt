-- What a command on one input does.
use Rattle.std.specs.Prelude.{ℕ, Bool, List, [], ◌∷◌}
use Rattle.commands.specs.declared.outcome.Outcome.{Outcome}
use Rattle.commands.specs.Commands.{Command}
use Rattle.commands.specs.Ending.{Traces, IsIdle, Ends, OfFile}
use Rattle.commands.specs.Doing.{IsNotBegun}
use Rattle.commands.specs.Calling.{Effect}

-- What a command does with its one input, by the bytes of it.
pub record OneInput : Type 1 where
  -- how it ends on an input with that text, of which those bytes were taken
  pub Ends : List ℕ → List ℕ → Traces → Outcome → Type 0
  -- a calm core does not fail on it
  pub Serves : List ℕ → Type 0
  -- whether the core is used
  pub plays : Bool

abbrev pub DoesInput : OneInput → List (List ℕ) → List (List ℕ) → Traces → Outcome → Type 0
DoesInput i texts [] t outcome = IsNotBegun outcome × IsIdle t
DoesInput i [] (front ∷ taken) t outcome = ⊥
DoesInput i (text ∷ texts) (front ∷ taken) t outcome = i.Ends text front t outcome

abbrev pub ServesInput : OneInput → List (List ℕ) → Type 0
ServesInput i [] = Unit {0}
ServesInput i (text ∷ texts) = i.Serves text

abbrev pub on_input : OneInput → Effect
on_input i = record { Does = DoesInput i; Serves = ServesInput i; plays = i.plays }

-- a command on the frames of its input
abbrev pub of_frames : Command → OneInput
of_frames c = record { Ends = Ends c; Serves = OfFile c c.Serves; plays = c.plays }

abbrev pub on_file : Command → Effect
on_file c = on_input (of_frames c)
