-- What a call of a command promises, whatever the command is.
use Rattle.std.specs.Prelude.{◌≡◌, ◌≢◌, ℕ, ◌+◌, ◌<◌, ◌≤◌, Bool, false, List, [], ◌∷◌, length, Some, IsSome, IsTrue}
use Rattle.std.specs.declared.option.Option.{Option}
use Rattle.std.specs.Io.KnownBytes.{prepend_known}
use Rattle.au_stream.specs.Script.{most_bytes}
use Rattle.commands.specs.declared.outcome.Outcome.{Outcome}
use Rattle.commands.specs.declared.outcome.Outcome.TheVariants as is
use Rattle.commands.specs.Causes.{Caused}
use Rattle.commands.specs.Ending.{Traces}
use Rattle.commands.specs.Worlds.{World, traces}

-- What a command does, by its inputs alone.
pub record Effect : Type 1 where
  -- what it does, and how it ends, on inputs with these texts, of which these bytes were taken
  pub Does : List (List ℕ) → List (List ℕ) → Traces → Outcome → Type 0
  -- a calm core does not fail on inputs with these texts
  pub Serves : List (List ℕ) → Type 0
  -- whether it uses the core
  pub plays : Bool

-- The inputs of these names were begun one after another, from that number on, as many as there are bytes taken: of each a
-- front was taken, and the rest is left.
abbrev pub AreTaken : (List ℕ → Option (List ℕ)) → (ℕ → Option (List ℕ)) → ℕ → List (List ℕ) → List (List ℕ) → Type 0
AreTaken bytes left id names [] = Unit {0}
AreTaken bytes left id [] (front ∷ taken) = ⊥
AreTaken bytes left id (name ∷ names) (front ∷ taken) = (bytes name ≡ prepend_known front (left id)) × (length front ≤ most_bytes + 1) × AreTaken bytes left (id + 1) names taken

-- the shelf tells these bytes of the names
abbrev pub AreHeld : (List ℕ → Option (List ℕ)) → List (List ℕ) → List (List ℕ) → Type 0
AreHeld bytes [] [] = Unit {0}
AreHeld bytes [] (text ∷ texts) = ⊥
AreHeld bytes (name ∷ names) [] = ⊥
AreHeld bytes (name ∷ names) (text ∷ texts) = (bytes name ≡ Some text) × AreHeld bytes names texts

-- it tells the bytes of each of the names, of as many as were begun
abbrev pub AllHeld : (List ℕ → Option (List ℕ)) → List (List ℕ) → Type 0
AllHeld bytes [] = Unit {0}
AllHeld bytes (name ∷ names) = IsSome (bytes name) × AllHeld bytes names

abbrev pub BegunHeld : (List ℕ → Option (List ℕ)) → List (List ℕ) → List (List ℕ) → Type 0
BegunHeld bytes names [] = Unit {0}
BegunHeld bytes [] (front ∷ taken) = ⊥
BegunHeld bytes (name ∷ names) (front ∷ taken) = IsSome (bytes name) × BegunHeld bytes names taken

-- What no command changes; and calm objects stay calm.
pub record Keeps {H K C : Type 0} (before after : World H K C) : Type 0 where
  pub names : after.bytes ≡ before.bytes
  pub tells : after.tells ≡ before.tells
  pub others : (id : ℕ) → id < before.begun → after.left id ≡ before.left id
  pub calm_shelf : before.calm_shelf → after.calm_shelf
  pub calm_out : before.calm_out → after.calm_out
  pub calm_core : before.calm_core → after.calm_core

-- A call of a command on the inputs of these names, and how it ended.
pub record Called {H K C : Type 0} (e : Effect) (names : List (List ℕ)) (before after : World H K C) (outcome : Outcome) : Type 0 where
  -- the bytes that were taken of each input that was begun, also where the shelf does not tell them
  pub taken : List (List ℕ)
  pub from : AreTaken before.bytes after.left before.begun names taken
  -- as many inputs were begun, and all of them where all is done
  pub begun : after.begun ≡ before.begun + length taken
  pub all_begun : outcome ≡ is.Done → length taken ≡ length names
  -- where the shelf tells the bytes of the inputs, they say what was written, how many units were fed, and the outcome
  pub does : (texts : List (List ℕ)) → AreHeld before.bytes names texts → e.Does texts taken (traces before after) outcome
  -- whether it tells them or not, the bytes that were taken account for all
  pub accounts : e.Does taken taken (traces before after) outcome
  -- no input is begun of which it tells that it does not hold it; and where none is begun, nothing is done
  pub held : IsTrue before.tells → BegunHeld before.bytes names taken
  pub nothing : 0 < length names → taken ≡ [] → (after.out ≡ before.out) × (after.core ≡ before.core)
  -- a fault is answered only where that object's count rose; every other count is as before
  pub caused : Caused before.faults after.faults outcome
  pub keeps : Keeps before after
  -- calm objects answer no fault, where the inputs are held and what they need is served
  pub calm_reads : before.calm_shelf → AllHeld before.bytes names → outcome ≢ is.ReadFault
  pub calm_writes : before.calm_out → outcome ≢ is.WriteFault
  pub calm_decodes : (texts : List (List ℕ)) → AreHeld before.bytes names texts → e.Serves texts → before.calm_core → outcome ≢ is.CoreFault
  -- a command that does not use the core leaves it as it was
  pub no_core : e.plays ≡ false → outcome ≢ is.CoreFault
  pub untouched : e.plays ≡ false → after.core ≡ before.core
