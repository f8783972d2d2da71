-- In which input a command stops whose write failed.
use Rattle.std.specs.Prelude.{◌≡◌, ℕ, Bool, ◌⊎◌, List, [], ◌∷◌, ◌++◌, length}
use Rattle.au_stream.specs.Frames.{Frame}
use Rattle.au_stream.specs.Script.{End}
use Rattle.commands.specs.declared.outcome.Outcome.TheVariants as is
use Rattle.commands.specs.Commands.{Command}
use Rattle.commands.specs.Ending.{Traces, Passes, StopsWriting, WroteClosedFront}
use Rattle.commands.specs.OnInputs.{Middle, until_middle, from_middle, several, DoesInputs, Led}

-- A write failed at a frame of the last input that was begun, or at the end of it; the inputs before it passed. How little of it was read
-- behind that frame, StopsWriting says.
pub record StopsInLast {At : Type 0} (command : At → Command) (then : At → List Frame → At) (plays : Bool) (from : At) (texts taken : List (List ℕ)) (t : Traces) : Type 0 where
  -- the texts of the inputs before it, its own, and those of the inputs that were not begun
  pub passed : List (List ℕ)
  pub text : List ℕ
  pub later : List (List ℕ)
  pub all : texts ≡ passed ++ text ∷ later
  -- what was taken of these
  pub fronts : List (List ℕ)
  pub front : List ℕ
  pub begun : taken ≡ fronts ++ front ∷ []
  pub number : length fronts ≡ length passed
  -- what the command knows there
  pub at : At
  pub middle : Middle
  pub led : Led (several command then plays) from passed fronts (until_middle t middle) at
  pub frames : List Frame
  pub stops : StopsWriting (command at) text front frames (from_middle t middle) ⊎ (Passes (command at) text frames End × WroteClosedFront (command at) frames (from_middle t middle))

-- So it is with a command, on whatever inputs.
abbrev pub StopsInTheLastInput : {At : Type 0} → (At → Command) → (At → List Frame → At) → Bool → Type 0
StopsInTheLastInput {At = At} command then plays =
    (from : At) (texts taken : List (List ℕ)) (t : Traces) → DoesInputs (several command then plays) from texts taken t is.WriteFault → StopsInLast command then plays from texts taken t
