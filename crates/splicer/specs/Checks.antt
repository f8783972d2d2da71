-- What a check of a frame answers and leaves.
use Rattle.std.specs.Prelude.{◌≡◌, ℕ, true, false, Some, None, Result, Ok, Err}
use Rattle.plans.specs.Coded.{Coded}
use Rattle.splicer.specs.declared.turn.Turn.{Turn}
use Rattle.splicer.specs.declared.fault.SpliceFault.{SpliceFault}
use Rattle.splicer.specs.declared.fault.SpliceFault.TheVariants.{Plan, ConfigChanges, Frame, NotIndependent, Carry, SameConfig, TooFew, PrerollForeign, Ended, Memory}
use Rattle.splicer.specs.Runs.{RunValue, fault, turn, behind, ended_run}

-- The frame breaks no rule: this is its turn, and the run stands behind it.
pub record IsTaken (t : Turn) (need : ℕ) (f : Coded) (old new : RunValue) : Type 0 where
  pub going : old.ended ≡ false
  pub passes : fault old need f ≡ None
  pub turn_is : t ≡ turn old f
  pub run : new ≡ behind old f

-- This is the first rule that the frame breaks, and the run has ended.
pub record IsRefused (e : SpliceFault) (need : ℕ) (f : Coded) (old new : RunValue) : Type 0 where
  pub going : old.ended ≡ false
  pub breaks : fault old need f ≡ Some e
  pub run : new ≡ ended_run old

-- What the call did, by its answer. Out of memory may come before it is known whether the frame breaks a rule; and a run that has
-- ended stays as it is.
abbrev pub Checks : Result Turn SpliceFault → ℕ → Coded → RunValue → RunValue → Type 0
Checks (Ok t) need f old new = IsTaken t need f old new
Checks (Err (Plan p)) need f old new = IsRefused (Plan p) need f old new
Checks (Err (ConfigChanges n)) need f old new = IsRefused (ConfigChanges n) need f old new
Checks (Err (Frame n at)) need f old new = IsRefused (Frame n at) need f old new
Checks (Err (NotIndependent n)) need f old new = IsRefused (NotIndependent n) need f old new
Checks (Err (Carry n e)) need f old new = IsRefused (Carry n e) need f old new
Checks (Err (SameConfig n)) need f old new = IsRefused (SameConfig n) need f old new
Checks (Err (TooFew n have wanted)) need f old new = IsRefused (TooFew n have wanted) need f old new
Checks (Err (PrerollForeign n k)) need f old new = IsRefused (PrerollForeign n k) need f old new
Checks (Err (Memory e)) need f old new = (old.ended ≡ false) × (new ≡ ended_run old)
Checks (Err Ended) need f old new = (old.ended ≡ true) × (new ≡ old)
