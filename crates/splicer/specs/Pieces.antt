-- Renditions as they are read: when no rule is broken, and what a plan of whole streams says of a piece.
use Rattle.std.specs.Prelude.{◌≡◌, ◌⊎◌, ℕ, ◌+◌, ◌*◌, ◌<◌, Bool, true, false, List, [], ◌∷◌, length, Option, Some, None, Ok, if◌then◌else◌}
use Rattle.usac_cfg.specs.declared.usac_config.UsacConfig.{UsacConfig}
use Rattle.usac_cfg.specs.UsacConfig.{frame_length}
use Rattle.timeline.specs.declared.piece.Piece.{Piece}
use Rattle.timeline.specs.Plan.{first_position}
use Rattle.plans.specs.Coded.{Coded}
use Rattle.plans.specs.WholeStream.{stream_config}
use Rattle.plans.specs.Level.{AreLevel}
use Rattle.plans.specs.Parts.{Part, IsPart}
use Rattle.plans.specs.SoundPlan.{BeginsWarm}
use Rattle.splicer.specs.declared.asked.Asked.{Asked}
use Rattle.splicer.specs.declared.turn.Turn.{Turn}
use Rattle.splicer.specs.declared.turn.Turn.TheVariants.{Skip, Start, Join, Play, After}
use Rattle.splicer.specs.declared.fault.SpliceFault.{SpliceFault}
use Rattle.splicer.specs.Rules.{or_then}
use Rattle.splicer.specs.Runs.{RunValue, new_run, fault, turn, behind, run_over, end}

-- The first rule that is broken, where frames are fed one after another, each with the warm-up of its configuration.
abbrev pub fault_over : (UsacConfig → ℕ) → RunValue → List Coded → Option SpliceFault
fault_over warm v [] = None
fault_over warm v (f ∷ fs) = or_then (fault v (warm f.config) f) (fault_over warm (behind v f) fs)

-- A run refuses none of the frames of a rendition, and at its end gives this piece.
pub record GivesPiece (warm : UsacConfig → ℕ) (a : Asked) (fs : List Coded) (p : Piece) : Type 0 where
  pub passes : fault_over warm (new_run a) fs ≡ None
  pub ends : end (run_over (new_run a) fs) ≡ Ok p

-- ---- in the words of plans

-- the number of output samples of each frame of a stream
abbrev pub length_in : List Coded → ℕ
length_in [] = 0
length_in (f ∷ fs) = frame_length f.config

-- It ends at that position, or with its stream.
abbrev pub EndsAt : Option ℕ → Part → Type 0
EndsAt None p = p.to ≡ length p.stream
EndsAt (Some until) p = p.to * length_in p.stream ≡ until

-- A part lies where it is asked for: its first frame stands at the position, and it ends where it is to end.
pub record IsTimed (a : Asked) (p : Part) : Type 0 where
  pub begins : p.from * length_in p.stream ≡ a.position
  pub ends : EndsAt a.until p

-- It goes on soundly behind a stream of that configuration; where there is none, it begins with its own stream, or warm within it.
abbrev pub GoesOnFrom : (UsacConfig → ℕ) → Option UsacConfig → Part → Type 0
GoesOnFrom warm None p = (p.from ≡ 0) ⊎ BeginsWarm warm p
GoesOnFrom warm (Some b) p = AreLevel (Some b) (stream_config p.stream) × BeginsWarm warm p

-- the part of a rendition that a piece is
abbrev pub part_of : List Coded → Piece → Part
part_of fs p = record { stream = fs; from = p.from; to = p.to }

-- The rendition is a whole stream, of which the piece is a part; it lies where it is asked for, and goes on soundly.
pub record IsSoundPiece (warm : UsacConfig → ℕ) (a : Asked) (fs : List Coded) (p : Piece) : Type 0 where
  pub part : IsPart (part_of fs p)
  pub timed : IsTimed a (part_of fs p)
  pub sound : GoesOnFrom warm a.before (part_of fs p)

-- the next position, where there is one, is larger
abbrev pub Rises : ℕ → Option ℕ → Type 0
Rises at None = Unit {0}
Rises at (Some until) = at < until

-- ---- renditions one after another

-- what piece k is asked: its position, and the next one, behind a stream of a configuration, if there is one
abbrev pub asked : ℕ → ℕ → Option ℕ → Option UsacConfig → Asked
asked k at until before = record { piece = k; position = at; until = until; before = before }

-- Runs over streams, one after another, each behind the one before: each refuses nothing, and gives its part.
abbrev pub GiveParts : (UsacConfig → ℕ) → ℕ → Option UsacConfig → List ℕ → List Part → Type 0
GiveParts warm k before [] [] = Unit {0}
GiveParts warm k before [] (p ∷ ps) = ⊥
GiveParts warm k before (at ∷ ats) [] = ⊥
GiveParts warm k before (at ∷ ats) (p ∷ ps) =
    GivesPiece warm (asked k at (first_position ats) before) p.stream (record { from = p.from; to = p.to }) × GiveParts warm (k + 1) (stream_config p.stream) ats ps

-- A plan is timed by positions: each part begins at its position, and ends at the next one; the last ends with its stream.
abbrev pub AreTimedBy : List ℕ → List Part → Type 0
AreTimedBy [] [] = Unit {0}
AreTimedBy [] (p ∷ ps) = ⊥
AreTimedBy (at ∷ ats) [] = ⊥
AreTimedBy (at ∷ ats) (p ∷ ps) = (p.from * length_in p.stream ≡ at) × EndsAt (first_position ats) p × AreTimedBy ats ps

-- ---- what is given out

-- the frame is one of the piece
abbrev pub is_given : Turn → Bool
is_given Skip = false
is_given (Start units fade) = true
is_given (Join units fade) = true
is_given Play = true
is_given After = false

abbrev pub given_if : Bool → Coded → List Coded → List Coded
given_if b f later = if b then f ∷ later else later

-- the frames that a run says are of the piece
abbrev pub given : RunValue → List Coded → List Coded
given v [] = []
given v (f ∷ fs) = given_if (is_given (turn v f)) f (given (behind v f) fs)
