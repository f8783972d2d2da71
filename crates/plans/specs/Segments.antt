-- The segments of frames: the longest runs with one configuration. Configurations are compared as the definition `same` does.
use Rattle.std.specs.Prelude.{List, [], ◌∷◌, map, if◌then◌else◌}
use Rattle.usac_cfg.specs.Same.{same}
use Rattle.preroll.specs.Carrying.{Shown}
use Rattle.plans.specs.Plans.{Piece, whole}

-- a frame before runs: it joins the first of them if the configuration is the same
abbrev pub before_runs : Shown → List (List Shown) → List (List Shown)
before_runs f [] = (f ∷ []) ∷ []
before_runs f ([] ∷ rs) = (f ∷ []) ∷ rs
before_runs f ((g ∷ gs) ∷ rs) = if same f.config g.config then (f ∷ g ∷ gs) ∷ rs else (f ∷ []) ∷ (g ∷ gs) ∷ rs

-- the longest runs of frames with one configuration
abbrev pub segments : List Shown → List (List Shown)
segments [] = []
segments (f ∷ fs) = before_runs f (segments fs)

-- the plan that has each segment as a stream of its own
abbrev pub own : List Shown → List Piece
own fs = map whole (segments fs)
