-- What is true of the check of a rendition.
use Rattle.std.specs.Prelude.{◌≡◌, ◌↔◌, ℕ, ◌+◌, List, [], ◌∷◌, ◌++◌, length, map, drop, None, true, All, ◌&&◌, ◌==◌, is_none}
use Rattle.std.specs.List.Sorted.{IsStrictlyIncreasing}
use Rattle.layout.specs.Layout.{FitsOption}
use Rattle.usac_cfg.specs.declared.usac_config.UsacConfig.{UsacConfig}
use Rattle.usac_cfg.specs.UsacConfig.{IsWellFormed}
use Rattle.timeline.specs.declared.piece.Piece.{Piece}
use Rattle.timeline.specs.Plan.{first_position}
use Rattle.plans.specs.Coded.{Coded, coded_shown}
use Rattle.plans.specs.Parts.{Part, part_frames, spliced}
use Rattle.plans.specs.SoundPlan.{IsSoundPlan}
use Rattle.plans.specs.StreamUnits.{units_of}
use Rattle.plans.specs.WholeStream.{stream_config}
use Rattle.splicer.specs.declared.asked.Asked.{Asked}
use Rattle.splicer.specs.Foreign.{last_n}
use Rattle.splicer.specs.Rules.{or_then, from_of, fault_of}
use Rattle.splicer.specs.Runs.{RunValue, new_run, fault, turn, run_over}
use Rattle.splicer.specs.Pieces.{fault_over, GivesPiece, part_of, IsSoundPiece, Rises, asked, GiveParts, AreTimedBy, is_given, given_if, given}
use Rattle.splicer.specs.SoFar.{AsksNext, plan_so_far, is_beginning, is_start}

-- What a run holds behind frames: the last 18 of the units that their stream has so far, their number, and the first one's
-- configuration. The first rule that a further frame breaks is that by all units of the stream.
pub record HoldsLastUnits : Type 0 where
  pub kept : (a : Asked) (fs : List Coded) → (run_over (new_run a) fs).kept ≡ last_n 18 (units_of (map coded_shown fs))
  pub frames : (a : Asked) (fs : List Coded) → (run_over (new_run a) fs).frames ≡ length fs
  pub first : (a : Asked) (fs : List Coded) → (run_over (new_run a) fs).first ≡ stream_config fs
  pub judges : (a : Asked) (fs : List Coded) (need : ℕ) (f : Coded) → IsWellFormed f.config
      → fault (run_over (new_run a) fs) need f ≡ fault_of a (stream_config fs) (length fs) (units_of (map coded_shown fs)) need f
  pub more : (a : Asked) (fs gs : List Coded) → run_over (new_run a) (fs ++ gs) ≡ run_over (run_over (new_run a) fs) gs

-- A run refuses no frame of a rendition, and gives a piece of it, exactly where that is a sound piece of a whole stream. It holds for
-- each warm-up, whatever the core.
abbrev pub GivesSoundPieces : Type 0
GivesSoundPieces = (warm : UsacConfig → ℕ) (a : Asked) (fs : List Coded) (p : Piece) → FitsOption IsWellFormed a.before → Rises a.position a.until → All (λ f. IsWellFormed f.config) fs
    → GivesPiece warm a fs p ↔ IsSoundPiece warm a fs p

-- Runs over streams, one after another, refuse nothing and give these parts, exactly where the parts are a sound plan that is timed by
-- the positions.
abbrev pub GiveSoundPlans : Type 0
GiveSoundPlans = (warm : UsacConfig → ℕ) (positions : List ℕ) (parts : List Part) → IsStrictlyIncreasing positions → All (λ p. All (λ f. IsWellFormed f.config) p.stream) parts
    → GiveParts warm 0 None positions parts ↔ (IsSoundPlan warm parts × AreTimedBy positions parts)

-- The frames that a run says are of the piece are those of the piece that it gives, in order.
abbrev pub GivesFrames : Type 0
GivesFrames = (warm : UsacConfig → ℕ) (a : Asked) (fs : List Coded) (p : Piece) → FitsOption IsWellFormed a.before → Rises a.position a.until → All (λ f. IsWellFormed f.config) fs
    → GivesPiece warm a fs p → given (new_run a) fs ≡ part_frames (part_of fs p)

-- ---- what was given out so far

-- Whatever the renditions are, and however they go on: what was given out before the first rule that is broken is the splice of a sound
-- plan. Runs over streams gave these parts, and the run over the next one refused none of these frames.
abbrev pub GivesSoundPlansSoFar : Type 0
GivesSoundPlansSoFar = (warm : UsacConfig → ℕ) (positions : List ℕ) (parts : List Part) (a : Asked) (fs : List Coded) → IsStrictlyIncreasing positions
    → All (λ p. All (λ f. IsWellFormed f.config) p.stream) parts → All (λ f. IsWellFormed f.config) fs → AsksNext warm 0 None positions parts a → fault_over warm (new_run a) fs ≡ None
    → IsSoundPlan warm (plan_so_far parts a fs) × (spliced (plan_so_far parts a fs) ≡ spliced parts ++ given (new_run a) fs)

-- How runs over renditions go on: by one frame, which breaks a rule or none, and is given or not; and by one rendition, behind which
-- there is a further position or none.
pub record RunsGoOn : Type 0 where
  pub passes : (warm : UsacConfig → ℕ) (v : RunValue) (fs : List Coded) (f : Coded) → fault_over warm v (fs ++ f ∷ []) ≡ or_then (fault_over warm v fs) (fault (run_over v fs) (warm f.config) f)
  pub gives : (v : RunValue) (fs : List Coded) (f : Coded) → given v (fs ++ f ∷ []) ≡ given v fs ++ given_if (is_given (turn (run_over v fs) f)) f []
  pub next : (warm : UsacConfig → ℕ) (positions : List ℕ) (parts : List Part) (a : Asked) (fs : List Coded) (p : Piece) (at : ℕ) (ats : List ℕ)
      → AsksNext warm 0 None positions parts a → GivesPiece warm a fs p → drop (length parts + 1) positions ≡ at ∷ ats
      → AsksNext warm 0 None positions (parts ++ part_of fs p ∷ []) (asked (length parts + 1) at (first_position ats) (stream_config fs))
  pub last : (warm : UsacConfig → ℕ) (positions : List ℕ) (parts : List Part) (a : Asked) (fs : List Coded) (p : Piece)
      → AsksNext warm 0 None positions parts a → GivesPiece warm a fs p → drop (length parts + 1) positions ≡ []
      → GiveParts warm 0 None positions (parts ++ part_of fs p ∷ [])

-- Which frame is the first of its piece: the one of the number at which the piece begins, and no other. It is a start where no rendition
-- is before and the piece begins with its stream, and else a join. Where no rule is broken, it is the first frame that is given, and no
-- other that is given.
pub record TellsBeginnings : Type 0 where
  pub begins : (a : Asked) (fs : List Coded) (f : Coded) → is_beginning (turn (run_over (new_run a) fs) f) ≡ (length fs == from_of a f.config)
  pub starts : (a : Asked) (fs : List Coded) (f : Coded) → is_start (turn (run_over (new_run a) fs) f) ≡ ((length fs == from_of a f.config) && ((from_of a f.config == 0) && is_none a.before))
  pub first : (warm : UsacConfig → ℕ) (a : Asked) (fs : List Coded) (f : Coded) → Rises a.position a.until → All (λ g. IsWellFormed g.config) fs → IsWellFormed f.config
      → fault_over warm (new_run a) fs ≡ None → fault (run_over (new_run a) fs) (warm f.config) f ≡ None → is_given (turn (run_over (new_run a) fs) f) ≡ true
      → is_beginning (turn (run_over (new_run a) fs) f) ≡ (length (given (new_run a) fs) == 0)
