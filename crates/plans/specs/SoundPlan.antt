-- When a plan is sound: a decoder that has warmed up at each join plays it as if each stream had been decoded from its beginning.
-- The warm-up, how many units a decoder needs before a frame, is a parameter. No word here knows how a core works.
use Rattle.std.specs.Prelude.{◌≡◌, ◌⊎◌, ℕ, ◌≤◌, List, [], ◌∷◌, length, map, Option, Some, slice_get}
use Rattle.usac_cfg.specs.declared.usac_config.UsacConfig.{UsacConfig}
use Rattle.preroll.specs.Carrying.{Carried}
use Rattle.plans.specs.Coded.{Coded, coded_shown, CarriesUnits}
use Rattle.plans.specs.WholeStream.{stream_config}
use Rattle.plans.specs.StreamUnits.{IsFaithful}
use Rattle.plans.specs.Level.{AreLevel}
use Rattle.plans.specs.Parts.{Part, IsPart}

-- The part begins at a frame that carries units: as many as the warm-up, or more, and those that its own stream has before it.
pub record BeginsWarm (warm : UsacConfig → ℕ) (p : Part) : Type 0 where
  pub frame : Coded
  pub carried : Carried
  pub first : slice_get p.stream p.from ≡ Some frame
  pub carries : CarriesUnits frame carried
  pub enough : warm frame.config ≤ length carried.units
  pub faithful : IsFaithful (map coded_shown p.stream) p.from carried

-- Each part is soundly joined to the one before it, and the first of them to a stream of that configuration: the configuration
-- changes there, to one of the same rate and as many channels, and the part begins warm.
abbrev pub AreJoined : (UsacConfig → ℕ) → Option UsacConfig → List Part → Type 0
AreJoined warm c [] = Unit {0}
AreJoined warm c (p ∷ ps) = IsPart p × AreLevel c (stream_config p.stream) × BeginsWarm warm p × AreJoined warm (stream_config p.stream) ps

-- A sound plan: its first part begins with its stream, or warm within it, and each further one is soundly joined.
abbrev pub IsSoundPlan : (UsacConfig → ℕ) → List Part → Type 0
IsSoundPlan warm [] = Unit {0}
IsSoundPlan warm (p ∷ ps) = IsPart p × ((p.from ≡ 0) ⊎ BeginsWarm warm p) × AreJoined warm (stream_config p.stream) ps
