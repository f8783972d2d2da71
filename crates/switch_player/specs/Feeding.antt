-- What feeding a frame to a player answers and leaves. The rules by which it is refused are a parameter.
use Rattle.std.specs.Prelude.{◌≡◌, ◌⊎◌, ℕ, ◌+◌, ◌≤◌, List, ◌++◌, Option, Some, None, Result, Ok, Err, true, false, ℤ}
use Rattle.causes.specs.Counts.{HasCause}
use Rattle.usac_cfg.specs.declared.usac_config.UsacConfig.{UsacConfig}
use Rattle.usac_cfg.specs.UsacConfig.{IsWellFormed}
use Rattle.core_iface.specs.Decoding.{Definitions}
use Rattle.core_iface.specs.Answering.{Running, Meaning}
use Rattle.preroll.specs.Carrying.{Shown, Shows}
use Rattle.switch_player.specs.declared.fault.PlayFault.{PlayFault}
use Rattle.switch_player.specs.declared.fault.PlayFault.TheVariants.{FrameFault, NotIndependent, RateChanged, ChannelsChanged, Carry, TooFew, CoreFault, Memory, Stopped}
use Rattle.switch_player.specs.PlayerValue.{PlayerValue}
use Rattle.switch_player.specs.Playing.{played_block, played_state, standing, before_it}
use Rattle.switch_player.specs.Rules.{TakesBy}
use Rattle.switch_player.specs.Faults.{is_core_fault}

-- Where a frame was played, the core is ready with its configuration, in a sound state.
abbrev pub IsInStep : Definitions → Option UsacConfig → Option Running → Type 0
IsInStep d None r = Unit {0}
IsInStep d (Some c) None = ⊥
IsInStep d (Some c) (Some r) = (r.config ≡ c) × IsWellFormed c × d.sound c r.state

-- The frame breaks no rule and was played: its block is appended, and the core stands behind it.
pub record IsPlayed (R : PlayFault → Type 0) (d : Definitions) (c : UsacConfig) (au : List ℕ) (p q : PlayerValue) (k m : Meaning) (s t : List ℤ) : Type 0 where
  pub going : p.stopped ≡ false
  pub takes : TakesBy R
  pub frame : Shown
  pub shows : Shows c au frame
  pub block : t ≡ s ++ played_block d (standing p.last k.ready) frame
  pub state : m.ready ≡ played_state d (standing p.last k.ready) frame
  pub in_step : IsInStep d (Some c) m.ready
  pub fed : m.fed ≡ k.fed + (before_it p.last frame + 1)
  pub player : q ≡ record { last = Some c; stopped = false }

-- Nothing changed.
pub record IsSame (p q : PlayerValue) (k m : Meaning) (s t : List ℤ) : Type 0 where
  pub player : q ≡ p
  pub core : m ≡ k
  pub samples : t ≡ s

-- The frame is refused by this rule, and nothing changed.
pub record IsRefused (R : PlayFault → Type 0) (e : PlayFault) (p q : PlayerValue) (k m : Meaning) (s t : List ℤ) : Type 0 where
  pub going : p.stopped ≡ false
  pub refuses : R e
  pub same : IsSame p q k m s t

-- The player stopped in this call, and no sample was appended.
pub record IsStopped (p q : PlayerValue) (s t : List ℤ) : Type 0 where
  pub going : p.stopped ≡ false
  pub player : q ≡ record { last = p.last; stopped = true }
  pub samples : t ≡ s

-- So many units were fed at most, beyond those that are stepped before the frame.
pub record FedUpTo (more : ℕ) (c : UsacConfig) (au : List ℕ) (last : Option UsacConfig) (k m : Meaning) : Type 0 where
  pub frame : Shown
  pub shows : Shows c au frame
  pub at_least : k.fed ≤ m.fed
  pub at_most : m.fed ≤ k.fed + (before_it last frame + more)

-- What the call did, by its answer. Out of memory may come before the frame is known, and nothing was fed then.
abbrev pub Answered : Result (Unit {0}) PlayFault → (PlayFault → Type 0) → Definitions → UsacConfig → List ℕ → PlayerValue → PlayerValue → Meaning → Meaning → List ℤ → List ℤ → Type 0
Answered (Ok x) R d c au p q k m s t = IsPlayed R d c au p q k m s t
Answered (Err (FrameFault at)) R d c au p q k m s t = IsRefused R (FrameFault at) p q k m s t
Answered (Err NotIndependent) R d c au p q k m s t = IsRefused R NotIndependent p q k m s t
Answered (Err RateChanged) R d c au p q k m s t = IsRefused R RateChanged p q k m s t
Answered (Err ChannelsChanged) R d c au p q k m s t = IsRefused R ChannelsChanged p q k m s t
Answered (Err (Carry e)) R d c au p q k m s t = IsRefused R (Carry e) p q k m s t
Answered (Err (TooFew have need)) R d c au p q k m s t = IsRefused R (TooFew have need) p q k m s t
Answered (Err CoreFault) R d c au p q k m s t = IsStopped p q s t × TakesBy R × (m.ready ≡ None) × FedUpTo 0 c au p.last k m
Answered (Err (Memory e)) R d c au p q k m s t = IsStopped p q s t × ((m.fed ≡ k.fed) ⊎ FedUpTo 1 c au p.last k m)
Answered (Err Stopped) R d c au p q k m s t = (p.stopped ≡ true) × IsSame p q k m s t

-- All that is promised of the call, for player, core and samples before and behind it: what it did, by its answer; that it is a
-- fault of the core only where the core's count rose; that a call feeds up to 19 units; and that a player which has not stopped
-- can be fed again.
pub record Feeds (result : Result (Unit {0}) PlayFault) (R : PlayFault → Type 0) (d : Definitions) (c : UsacConfig) (au : List ℕ) (p q : PlayerValue) (k m : Meaning) (s t : List ℤ) : Type 0 where
  pub answered : Answered result R d c au p q k m s t
  pub faults : HasCause (is_core_fault result) k.faults m.faults
  pub few : m.fed ≤ k.fed + 19
  pub in_step : q.stopped ≡ false → IsInStep d q.last m.ready
