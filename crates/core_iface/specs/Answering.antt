-- What a call of a core answers and leaves.
use Rattle.std.specs.Prelude.{◌≡◌, ℕ, ◌+◌, List, [], ◌∷◌, ◌++◌, Option, Some, None, Result, Ok, Err, ℤ}
use Rattle.std.proofs.Common.{refl, ap}
use Rattle.usac_cfg.specs.declared.usac_config.UsacConfig.{UsacConfig}
use Rattle.core_iface.specs.declared.fault.CoreFault.{CoreFault}
use Rattle.usac_frame.specs.Units.{UnitValue}
use Rattle.core_iface.specs.Decoding.{Definitions, out, after, samples_of}

-- a core at work: its configuration and its state
pub record Running : Type 0 where
  pub config : UsacConfig
  pub state : List ℕ

abbrev pub running : UsacConfig → List ℕ → Option Running
running c s = Some (record { config = c; state = s })

-- What is known of a core: whether it is ready, and how; its count of faults; the units that it was fed.
pub record Meaning : Type 0 where
  pub ready : Option Running
  pub faults : ℕ
  pub fed : ℕ

-- At Ok the core is ready as `then` says, was fed `more` units, and the samples grew by `added`.
pub record IsDone (old new : Meaning) (then : Option Running) (more : ℕ) (samples_old samples_new added : List ℤ) : Type 0 where
  pub ready : new.ready ≡ then
  pub fed : new.fed ≡ old.fed + more
  pub samples : samples_new ≡ samples_old ++ added

-- At a refusal the core is not ready, and the units fed and the samples are as before.
pub record IsRefused (old new : Meaning) (samples_old samples_new : List ℤ) : Type 0 where
  pub ready : new.ready ≡ None
  pub fed : new.fed ≡ old.fed
  pub samples : samples_new ≡ samples_old

-- what a call of a core leaves, by its answer
abbrev pub Answers : {A : Type 0} → Result A CoreFault → Meaning → Meaning → Option Running → ℕ → List ℤ → List ℤ → List ℤ → Type 0
Answers (Ok x) old new then more samples_old samples_new added = IsDone old new then more samples_old samples_new added
Answers (Err e) old new then more samples_old samples_new added = IsRefused old new samples_old samples_new

-- how a core that is ready stands behind a unit
abbrev pub stepped : Definitions → Option Running → UnitValue → Option Running
stepped d None u = None
stepped d (Some r) u = running r.config (d.next r.config r.state u)

-- the samples that it emits for the unit
abbrev pub emitted : Definitions → Option Running → UnitValue → List ℤ
emitted d None u = []
emitted d (Some r) u = d.emit r.config r.state u

-- the samples that it drains
abbrev pub drained : Definitions → Option Running → List ℤ
drained d None = []
drained d (Some r) = d.drain r.config r.state

-- how it stands behind units
abbrev pub stepped_over : Definitions → Option Running → List UnitValue → Option Running
stepped_over d r [] = r
stepped_over d r (u ∷ us) = stepped_over d (stepped d r u) us

-- the samples that it emits for them
abbrev pub emitted_over : Definitions → Option Running → List UnitValue → List ℤ
emitted_over d r [] = []
emitted_over d r (u ∷ us) = emitted d r u ++ emitted_over d (stepped d r u) us

-- stepping unit by unit leads to the state behind all of them
pub stepped_over-running : (d : Definitions) (c : UsacConfig) (s : List ℕ) (us : List UnitValue) → stepped_over d (running c s) us ≡ running c (after d c s us)
stepped_over-running d c s [] = refl
stepped_over-running d c s (u ∷ us) = stepped_over-running d c (d.next c s u) us

-- and emits the samples of their blocks
pub emitted_over-running : (d : Definitions) (c : UsacConfig) (s : List ℕ) (us : List UnitValue) → emitted_over d (running c s) us ≡ samples_of (out d c s us)
emitted_over-running d c s [] = refl
emitted_over-running d c s (u ∷ us) = ap (λ xs. d.emit c s u ++ xs) (emitted_over-running d c (d.next c s u) us)
