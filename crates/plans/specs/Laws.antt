-- What is true of segments.
use Rattle.std.specs.Prelude.{◌≡◌, List, [], ◌∷◌, Option, Some, None, true, false, All}
use Rattle.usac_cfg.specs.declared.usac_config.UsacConfig.{UsacConfig}
use Rattle.usac_cfg.specs.Same.{same}
use Rattle.preroll.specs.Carrying.{Shown}
use Rattle.plans.specs.Plans.{splice}
use Rattle.plans.specs.Segments.{segments, own}

-- frames of one configuration
abbrev pub AreOf : UsacConfig → List Shown → Type 0
AreOf c fs = All (λ f. same c f.config ≡ true) fs

-- two configurations, where there are two, are not the same
abbrev pub Differ : Option UsacConfig → Option UsacConfig → Type 0
Differ None b = Unit {0}
Differ (Some a) None = Unit {0}
Differ (Some a) (Some b) = same a b ≡ false

-- Runs of frames behind a frame of a configuration: each has a frame, and one configuration, which is not that before it.
abbrev pub AreRuns : Option UsacConfig → List (List Shown) → Type 0
AreRuns c [] = Unit {0}
AreRuns c ([] ∷ rs) = ⊥
AreRuns c ((f ∷ fs) ∷ rs) = Differ c (Some f.config) × AreOf f.config (f ∷ fs) × AreRuns (Some f.config) rs

-- The segments of frames are all of the frames, and such runs.
pub record AreTheirSegments : Type 0 where
  pub all : (fs : List Shown) → splice (own fs) ≡ fs
  pub runs : (fs : List Shown) → AreRuns None (segments fs)
