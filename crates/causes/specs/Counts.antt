-- What a call of a device or of a core says of its count of faults.
use Rattle.std.specs.Prelude.{◌≡◌, ℕ, ◌+◌, ◌-◌, ◌^◌, ◌<◌, ◌≤◌, ◌⊎◌, min, Bool, true, false}

-- One more, in 64 bits: a count stays at its last value once it has reached it.
abbrev pub one_more : ℕ → ℕ
one_more count = min (count + 1) (2 ^ 64 - 1)

-- The count rose in a call: it is larger at the exit, or stands at the last value that 64 bits hold.
abbrev pub Rose : ℕ → ℕ → Type 0
Rose before now = (before < now) ⊎ (now ≡ 2 ^ 64 - 1)

-- In a call that failed the count rose; in every other call it is as before.
abbrev pub Counted : Bool → ℕ → ℕ → Type 0
Counted true before now = Rose before now
Counted false before now = now ≡ before

-- What each call says of its count: it never falls, and it goes by whether the call failed.
pub record HasCause (failed : Bool) (before now : ℕ) : Type 0 where
  pub later : before ≤ now
  pub counted : Counted failed before now
