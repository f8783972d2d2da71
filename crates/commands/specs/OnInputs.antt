-- What a command on several inputs does: one after another, each to its end before the next is begun.
use Rattle.std.specs.Prelude.{◌≡◌, ◌≢◌, ◌⊎◌, ℕ, ◌+◌, ◌*◌, ◌^◌, ◌≤◌, Bool, false, IsTrue, ◌++◌, length, List, [], ◌∷◌}
use Rattle.std.specs.declared.option.Option.{Option}
use Rattle.commands.specs.declared.outcome.Outcome.{Outcome}
use Rattle.commands.specs.declared.outcome.Outcome.TheVariants as is
use Rattle.commands.specs.Ending.{Traces, IsIdle, Passes}
use Rattle.commands.specs.Doing.{IsNotBegun, DoesSource}
use Rattle.commands.specs.Worlds.{World, traces}
use Rattle.commands.specs.Calling.{Effect, AreTaken, AreHeld, BegunHeld, Keeps}
use Rattle.au_stream.specs.Frames.{Frame}
use Rattle.au_stream.specs.Script.{End}
use Rattle.commands.specs.Commands.{Command}
use Rattle.commands.specs.OnInput.{OneInput, of_frames}

-- What a command does with its inputs, by what it knows of those before: `At` is the type of that.
pub record Several (At : Type 0) : Type 1 where
  -- what it does with the next input; Done is that the input passed
  pub one : At → OneInput
  -- an input with that text, that passed, leads on to there
  pub Leads : At → List ℕ → At → Type 0
  -- whether the core is used
  pub plays : Bool

-- what was written and fed between two inputs
pub record Middle : Type 0 where
  pub written : Option (List ℕ)
  pub fed : ℕ

abbrev pub until_middle : Traces → Middle → Traces
until_middle t m = record { written_before = t.written_before; written_after = m.written; fed_before = t.fed_before; fed_after = m.fed }

abbrev pub from_middle : Traces → Middle → Traces
from_middle t m = record { written_before = m.written; written_after = t.written_after; fed_before = m.fed; fed_after = t.fed_after }

-- The command was stopped in the next input, which is the last that was begun.
pub record Stops {At : Type 0} (s : Several At) (at : At) (text front : List ℕ) (taken : List (List ℕ)) (t : Traces) (outcome : Outcome) : Type 0 where
  pub last : taken ≡ []
  pub stopped : outcome ≢ is.Done
  pub ends : (let i = s.one at in i.Ends text front t outcome)

-- It passed, and led on.
pub record Passed {At : Type 0} (s : Several At) (at : At) (text front : List ℕ) (t : Traces) (m : Middle) (next : At) : Type 0 where
  pub ends : (let i = s.one at in i.Ends text front (until_middle t m) is.Done)
  pub leads : s.Leads at text next

abbrev pub DoesInputs : {At : Type 0} → Several At → At → List (List ℕ) → List (List ℕ) → Traces → Outcome → Type 0
-- all passed; or the next one could not be begun
DoesInputs s at texts [] t outcome = IsIdle t × (((outcome ≡ is.Done) × (texts ≡ [])) ⊎ IsNotBegun outcome)
DoesInputs s at [] (front ∷ taken) t outcome = ⊥
DoesInputs {At = At} s at (text ∷ texts) (front ∷ taken) t outcome =
    Stops s at text front taken t outcome ⊎ ((next : At) × (m : Middle) × Passed s at text front t m next × DoesInputs s next texts taken (from_middle t m) outcome)

-- the core serves what each input needs of it, as far as they lead on
abbrev pub ServesInputs : {At : Type 0} → Several At → At → List (List ℕ) → Type 0
ServesInputs s at [] = Unit {0}
ServesInputs {At = At} s at (text ∷ texts) = (let i = s.one at in i.Serves text) × ((next : At) → s.Leads at text next → ServesInputs s next texts)

abbrev pub on_inputs : {At : Type 0} → Several At → At → Effect
on_inputs s at = record { Does = DoesInputs s at; Serves = ServesInputs s at; plays = s.plays }

-- A command on the frames of several inputs: where it stands says what it does with the next one.
abbrev pub several : {At : Type 0} → (At → Command) → (At → List Frame → At) → Bool → Several At
several command then plays = record {
  one = λ at. of_frames (command at);
  Leads = λ at text next. (frames : List Frame) × Passes (command at) text frames End × (next ≡ then at frames);
  plays = plays;
}

-- What a run on one of them did: how it ended, and where it leads where it passed.
abbrev pub EndsAt : {At : Type 0} → Several At → At → At → List ℕ → List ℕ → Traces → Outcome → Type 0
EndsAt s at next text taken t outcome = (let i = s.one at in i.Ends text taken t outcome) × (outcome ≡ is.Done → s.Leads at text next)

-- What a run on one of them did: where it leads, and that this holds there where the input passed.
pub record LeadsOn {At : Type 0} (s : Several At) (at : At) (Ready : At → Type 0) (left_before left_after : Option (List ℕ)) (t : Traces) (outcome : Outcome) : Type 0 where
  pub next : At
  pub ready : outcome ≡ is.Done → Ready next
  pub does : DoesSource (EndsAt s at next) left_before left_after t outcome

-- These inputs passed, one after another, and led there.
abbrev pub Led : {At : Type 0} → Several At → At → List (List ℕ) → List (List ℕ) → Traces → At → Type 0
Led s from [] [] t at = (at ≡ from) × IsIdle t
Led s from [] (front ∷ taken) t at = ⊥
Led s from (text ∷ texts) [] t at = ⊥
Led {At = At} s from (text ∷ texts) (front ∷ taken) t at = (next : At) × (m : Middle) × Passed s from text front t m next × Led s next texts taken (from_middle t m) at

-- Where the shelf tells: the first of the texts led there, the others are still to come, and are served where all are.
pub record LedTold {At : Type 0} (s : Several At) (from at : At) (bytes : List ℕ → Option (List ℕ)) (rest : List (List ℕ)) (texts taken : List (List ℕ)) (t : Traces) : Type 0 where
  pub gone : List (List ℕ)
  pub more : List (List ℕ)
  pub all : texts ≡ gone ++ more
  pub led : Led s from gone taken t at
  pub held : AreHeld bytes rest more
  pub serves : ServesInputs s from texts → ServesInputs s at more

-- Between two inputs: those of the first names passed.
pub record GoesOnTo {At : Type 0} {H K C : Type 0} (s : Several At) (from at : At) (done rest : List (List ℕ)) (before now : World H K C) : Type 0 where
  pub taken : List (List ℕ)
  pub number : length taken ≡ length done
  pub taken_of : AreTaken before.bytes now.left before.begun done taken
  pub begun : now.begun ≡ before.begun + length taken
  pub told : (texts : List (List ℕ)) → AreHeld before.bytes (done ++ rest) texts → LedTold s from at before.bytes rest texts taken (traces before now)
  pub alone : Led s from taken taken (traces before now) at
  pub held : IsTrue before.tells → BegunHeld before.bytes done taken
  pub first : done ≡ [] → (now.out ≡ before.out) × (now.core ≡ before.core)
  pub faults : now.faults ≡ before.faults
  pub keeps : Keeps before now
  pub untouched : s.plays ≡ false → now.core ≡ before.core
  pub fed : now.fed ≤ before.fed + 2 ^ 33 * length done
