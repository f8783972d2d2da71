-- Which calls of a device in memory fail, and what has happened so far.
use Rattle.std.specs.Prelude.{ℕ, ◌==◌, List, Bool, if◌then◌else◌}
use Rattle.std.specs.List.{list_any}
use Rattle.causes.specs.Counts.{one_more}

pub record Plan : Type 0 where
  -- the numbers of the calls that fail, where the first call is call 1
  pub failing : List ℕ
  -- how many calls there were
  pub calls : ℕ
  -- how often the device failed
  pub faults : ℕ

-- no call yet
abbrev pub fresh : List ℕ → Plan
fresh failing = record { failing = failing; calls = 0; faults = 0 }

-- Whether the next call fails: its number is in the list.
abbrev pub fails_next : Plan → Bool
fails_next plan = list_any (λ number. number == one_more plan.calls) plan.failing

-- the plan after one more fault that is no call
abbrev pub refused : Plan → Plan
refused plan = record plan { faults = one_more plan.faults }

-- the plan after its next call
abbrev pub after_call : Plan → Plan
after_call plan = record plan { calls = one_more plan.calls; faults = if fails_next plan then one_more plan.faults else plan.faults }
