-- A check of one rendition, as a value, and what frames and the end make of it.
use Rattle.std.specs.Prelude.{ℕ, ◌+◌, List, [], ◌∷◌, ◌++◌, Bool, true, false, Option, Some, None, Result, Ok, Err, nat_lt, if◌then◌else◌}
use Rattle.usac_cfg.specs.declared.usac_config.UsacConfig.{UsacConfig}
use Rattle.usac_frame.specs.AccessUnit.{unit_in}
use Rattle.usac_frame.specs.Units.{UnitValue}
use Rattle.preroll.specs.Carrying.{units_in, carried_in}
use Rattle.timeline.specs.declared.piece.Piece.{Piece}
use Rattle.timeline.specs.declared.fault.PlanFault.TheVariants as plans
use Rattle.plans.specs.Coded.{Coded}
use Rattle.splicer.specs.declared.asked.Asked.{Asked}
use Rattle.splicer.specs.declared.turn.Turn.{Turn}
use Rattle.splicer.specs.declared.fault.SpliceFault.{SpliceFault}
use Rattle.splicer.specs.declared.fault.SpliceFault.TheVariants.{Plan, Ended}
use Rattle.splicer.specs.Foreign.{last_n}
use Rattle.splicer.specs.Rules.{from_of, fault_of}
use Rattle.splicer.specs.Turns.{to_of, turn_of}

-- what is asked, the configuration of frame 0, the number of frames, the last units of the stream, and whether one was refused
pub record RunValue : Type 0 where
  pub asked : Asked
  pub first : Option UsacConfig
  pub frames : ℕ
  pub kept : List UnitValue
  pub ended : Bool

-- it was fed nothing
abbrev pub new_run : Asked → RunValue
new_run a = record { asked = a; first = None; frames = 0; kept = []; ended = false }

-- Why it refuses a frame, where so many units are needed.
abbrev pub fault : RunValue → ℕ → Coded → Option SpliceFault
fault v need f = fault_of v.asked v.first v.frames v.kept need f

-- What becomes of a frame.
abbrev pub turn : RunValue → Coded → Turn
turn v f = turn_of v.asked v.first v.frames f

abbrev pub first_or : Option UsacConfig → UsacConfig → UsacConfig
first_or None c = c
first_or (Some first) c = first

-- the units that the stream has before the frame: before those of frame 0 stand the units that it carries
abbrev pub units_before : Option UsacConfig → List UnitValue → Coded → List UnitValue
units_before None kept f = units_in (carried_in f.config f.au)
units_before (Some first) kept f = kept

-- Behind a frame: a preroll carries 18 units at most, so of the stream's the last 18 are kept.
abbrev pub behind : RunValue → Coded → RunValue
behind v f = record {
  asked = v.asked;
  first = Some (first_or v.first f.config);
  frames = v.frames + 1;
  kept = last_n 18 (units_before v.first v.kept f ++ unit_in f.config f.au ∷ []);
  ended = v.ended;
}

-- behind frames, one after another
abbrev pub run_over : RunValue → List Coded → RunValue
run_over v [] = v
run_over v (f ∷ fs) = run_over (behind v f) fs

-- behind a refusal
abbrev pub ended_run : RunValue → RunValue
ended_run v = record v { ended = true }

-- ---- the end

abbrev pub past_end : Asked → Result Piece SpliceFault
past_end a = Err (Plan (plans.PastEnd a.piece))

abbrev pub piece_to : Asked → ℕ → Option ℕ → ℕ → Result Piece SpliceFault
piece_to a from None frames = Ok (record { from = from; to = frames })
piece_to a from (Some to) frames = if nat_lt frames to then past_end a else Ok (record { from = from; to = to })

-- The piece of a rendition of so many frames: it has its first frame, and its last one.
abbrev pub piece_of : Asked → Option UsacConfig → ℕ → Result Piece SpliceFault
piece_of a None frames = past_end a
piece_of a (Some first) frames = if nat_lt (from_of a first) frames then piece_to a (from_of a first) (to_of a first) frames else past_end a

-- What the run answers at the end of its rendition.
abbrev pub end : RunValue → Result Piece SpliceFault
end v = if v.ended then Err Ended else piece_of v.asked v.first v.frames
