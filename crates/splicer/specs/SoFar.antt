-- Renditions of which the last was not read to its end: what they are asked, and the plan of what was given out of them so far.
use Rattle.std.specs.Prelude.{◌≡◌, ℕ, ◌+◌, Bool, true, false, List, [], ◌∷◌, ◌++◌, length, map, take, Option}
use Rattle.usac_cfg.specs.declared.usac_config.UsacConfig.{UsacConfig}
use Rattle.timeline.specs.Plan.{first_position}
use Rattle.plans.specs.Coded.{Coded}
use Rattle.plans.specs.WholeStream.{stream_config}
use Rattle.plans.specs.Parts.{Part}
use Rattle.splicer.specs.declared.asked.Asked.{Asked}
use Rattle.splicer.specs.declared.turn.Turn.{Turn}
use Rattle.splicer.specs.declared.turn.Turn.TheVariants.{Skip, Start, Join, Play, After}
use Rattle.splicer.specs.Rules.{from_of}
use Rattle.splicer.specs.Runs.{new_run}
use Rattle.splicer.specs.Pieces.{GivesPiece, asked, given}

-- Runs over streams, one after another, each behind the one before, gave these parts of the first of the positions, and this is asked
-- of the next stream: the next position, and the one behind it, behind the configuration of the last stream.
abbrev pub AsksNext : (UsacConfig → ℕ) → ℕ → Option UsacConfig → List ℕ → List Part → Asked → Type 0
AsksNext warm k before [] ps a = ⊥
AsksNext warm k before (at ∷ ats) [] a = a ≡ asked k at (first_position ats) before
AsksNext warm k before (at ∷ ats) (p ∷ ps) a =
    GivesPiece warm (asked k at (first_position ats) before) p.stream (record { from = p.from; to = p.to }) × AsksNext warm (k + 1) (stream_config p.stream) ats ps a

-- ---- the plan of what was given out

-- frames from one number on, up to before another, in a stream that ends with them
abbrev pub part_up_to : List Coded → ℕ → ℕ → Part
part_up_to fs from to = record { stream = take to fs; from = from; to = to }

-- a part whose stream ends with it
abbrev pub cut_part : Part → Part
cut_part p = part_up_to p.stream p.from p.to

-- as many frames as were given, from one number on; no part where none was
abbrev pub part_where_some : List Coded → ℕ → List Coded → List Part
part_where_some fs from [] = []
part_where_some fs from (g ∷ gs) = part_up_to fs from (from + length (g ∷ gs)) ∷ []

-- Of a rendition of which these frames were read: the part from the first frame of the piece up to the last one that was given, if one was.
abbrev pub part_given : Asked → List Coded → List Part
part_given a [] = []
part_given a (f ∷ fs) = part_where_some (f ∷ fs) (from_of a f.config) (given (new_run a) (f ∷ fs))

-- The pieces of which a frame was given, each stream up to its last frame that was given: the parts before, and that of the rendition
-- under way.
abbrev pub plan_so_far : List Part → Asked → List Coded → List Part
plan_so_far ps a fs = map cut_part ps ++ part_given a fs

-- ---- where a piece begins

-- the frame is the first of its piece
abbrev pub is_beginning : Turn → Bool
is_beginning Skip = false
is_beginning (Start units fade) = true
is_beginning (Join units fade) = true
is_beginning Play = false
is_beginning After = false

-- it begins the piece, with nothing before it
abbrev pub is_start : Turn → Bool
is_start Skip = false
is_start (Start units fade) = true
is_start (Join units fade) = false
is_start Play = false
is_start After = false
