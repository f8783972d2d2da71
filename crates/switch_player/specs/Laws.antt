-- What is true of a player, on every core.
use Rattle.std.specs.Prelude.{◌≡◌, ℕ, List, Option, None, All}
use Rattle.std.specs.List.{AllZip}
use Rattle.usac_cfg.specs.declared.usac_config.UsacConfig.{UsacConfig}
use Rattle.usac_cfg.specs.UsacConfig.{IsWellFormed}
use Rattle.core_iface.specs.Decoding.{Definitions}
use Rattle.preroll.specs.Carrying.{Shown}
use Rattle.plans.specs.Segments.{own}
use Rattle.plans.specs.Coded.{Coded}
use Rattle.plans.specs.Parts.{Part, IsPart, spliced}
use Rattle.plans.specs.OwnPlan.{own_plan}
use Rattle.plans.specs.SoundPlan.{BeginsWarm, IsSoundPlan}
use Rattle.switch_player.specs.declared.fault.PlayFault.{PlayFault}
use Rattle.switch_player.specs.Rules.{Refuses, RefusesAt}
use Rattle.switch_player.specs.Playing.{played}
use Rattle.switch_player.specs.Cuts.{cut, cut_plan}
use Rattle.switch_player.specs.Splices.{TakesFrames, IsOwnSplice, IsBlockOf, StartsWarm}

-- A frame is refused by one rule at most. So each rule is answered exactly where it is the first that is broken.
pub record IsRefusedOnce (d : Definitions) : Type 0 where
  pub feed : (last : Option UsacConfig) (c : UsacConfig) (au : List ℕ) (e f : PlayFault) → Refuses d last c au e → Refuses d last c au f → e ≡ f
  pub start : (c : UsacConfig) (au : List ℕ) (e f : PlayFault) → RefusesAt d c au e → RefusesAt d c au f → e ≡ f

-- What one core gives that runs on through frames is what their segments give, each decoded alone.
abbrev pub PlaysSegments : Definitions → Type 0
PlaysSegments d = (fs : List Shown) → played d None fs ≡ cut d (own fs)

-- What a sound plan splices is played as the plan is cut: its segments, each decoded alone, give the blocks that the plan's parts
-- have in their own streams.
abbrev pub SplicesConverge : Definitions → Type 0
SplicesConverge d = (plan : List Part) → IsSoundPlan d.warm plan → cut_plan d (own_plan (spliced plan)) ≡ cut_plan d plan

-- No frame of what a sound plan splices is refused.
abbrev pub RefusesNoSplice : Definitions → Type 0
RefusesNoSplice d = (plan : List Part) → IsSoundPlan d.warm plan → TakesFrames d None (spliced plan)

-- Only splices of sound plans are taken to their end: such frames are the splice of their own plan, and it is sound.
abbrev pub TakesSplicesAlone : Definitions → Type 0
TakesSplicesAlone d = (fs : List Coded) → All (λ f. IsWellFormed f.config) fs → TakesFrames d None fs → IsOwnSplice d fs

-- The cut of a sound plan has one block for each frame that it splices, in order, and no other.
abbrev pub CutsEachFrame : Definitions → Type 0
CutsEachFrame d = (plan : List Part) → IsSoundPlan d.warm plan → AllZip IsBlockOf (spliced plan) (cut_plan d plan)

-- A start at a part that begins warm is as good as one at the beginning of its stream.
abbrev pub StartsSoundly : Definitions → Type 0
StartsSoundly d = (p : Part) → IsPart p → BeginsWarm d.warm p → StartsWarm d p
