-- The plan that frames have by themselves: each of their segments, the longest runs with one configuration, as a stream of its own.
use Rattle.std.specs.Prelude.{List, [], ◌∷◌, map, if◌then◌else◌}
use Rattle.usac_cfg.specs.Same.{same}
use Rattle.plans.specs.Coded.{Coded}
use Rattle.plans.specs.Parts.{Part, whole_part}

-- a frame before runs: it joins the first of them if the configuration is the same
abbrev pub before_coded : Coded → List (List Coded) → List (List Coded)
before_coded f [] = (f ∷ []) ∷ []
before_coded f ([] ∷ rs) = (f ∷ []) ∷ rs
before_coded f ((g ∷ gs) ∷ rs) = if same f.config g.config then (f ∷ g ∷ gs) ∷ rs else (f ∷ []) ∷ (g ∷ gs) ∷ rs

-- the longest runs of frames with one configuration
abbrev pub coded_segments : List Coded → List (List Coded)
coded_segments [] = []
coded_segments (f ∷ fs) = before_coded f (coded_segments fs)

-- the plan that has each segment as a stream of its own
abbrev pub own_plan : List Coded → List Part
own_plan fs = map whole_part (coded_segments fs)
