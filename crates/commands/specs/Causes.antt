-- Which counts of faults rose in a command.
use Rattle.std.specs.Prelude.{◌≡◌, ℕ}
use Rattle.causes.specs.Counts.{Rose}
use Rattle.commands.specs.declared.outcome.Outcome.{Outcome}
use Rattle.commands.specs.declared.outcome.Outcome.TheVariants as is

-- the counts of faults of the shelf, of out and of the core
pub record Counts : Type 0 where
  pub shelf : ℕ
  pub out : ℕ
  pub core : ℕ

-- A fault is answered only where that object's count rose, and every other count is as before.
abbrev pub Caused : Counts → Counts → Outcome → Type 0
Caused before now is.Done = now ≡ before
Caused before now (is.Refused text) = now ≡ before
Caused before now is.ReadFault = Rose before.shelf now.shelf × (now.out ≡ before.out) × (now.core ≡ before.core)
Caused before now is.WriteFault = (now.shelf ≡ before.shelf) × Rose before.out now.out × (now.core ≡ before.core)
Caused before now is.CoreFault = (now.shelf ≡ before.shelf) × (now.out ≡ before.out) × Rose before.core now.core
Caused before now (is.Memory e) = now ≡ before
Caused before now is.TooLarge = now ≡ before
