-- Why a frame of a rendition is refused: the first rule that it breaks. That the rules go in this order is this project's own.
use Rattle.std.specs.Prelude.{ℕ, ◌/◌, List, length, Option, Some, None, Result, Ok, Err, Bool, true, false, ◌&&◌, ◌==◌, nat_lt, is_some, if◌then◌else◌}
use Rattle.usac_cfg.specs.declared.usac_config.UsacConfig.{UsacConfig}
use Rattle.usac_cfg.specs.UsacConfig.{rate, channels, frame_length}
use Rattle.usac_cfg.specs.Same.{same}
use Rattle.usac_frame.specs.AccessUnit.{unit_in}
use Rattle.usac_frame.specs.Units.{UnitValue}
use Rattle.preroll.specs.declared.fault.CarryFault.{CarryFault}
use Rattle.preroll.specs.Carried.{preroll_bytes}
use Rattle.preroll.specs.Carrying.{Carried, units_in, short_at, carried_in}
use Rattle.timeline.specs.declared.piece.PieceBounds.{PieceBounds}
use Rattle.timeline.specs.declared.fault.PlanFault.{PlanFault}
use Rattle.timeline.specs.declared.fault.PlanFault.TheVariants as plans
use Rattle.timeline.specs.Bounds.{bounds_result}
use Rattle.plans.specs.Coded.{Coded}
use Rattle.splicer.specs.declared.asked.Asked.{Asked}
use Rattle.splicer.specs.declared.fault.SpliceFault.{SpliceFault}
use Rattle.splicer.specs.declared.fault.SpliceFault.TheVariants.{Plan, ConfigChanges, Frame, NotIndependent, Carry, SameConfig, TooFew, PrerollForeign}
use Rattle.splicer.specs.Foreign.{foreign}

-- one rule, and then the others
abbrev pub or_then : Option SpliceFault → Option SpliceFault → Option SpliceFault
or_then None later = later
or_then (Some e) later = Some e

abbrev pub fault_if_not : Bool → SpliceFault → Option SpliceFault
fault_if_not true e = None
fault_if_not false e = Some e

-- ---- the configuration

-- Rate and number of channels are those of the rendition before, where there is one.
abbrev pub level_rule : ℕ → Option UsacConfig → UsacConfig → Option SpliceFault
level_rule piece None c = None
level_rule piece (Some b) c =
    or_then (fault_if_not (rate b == rate c) (Plan (plans.RateDiffers piece))) (fault_if_not (channels b == channels c) (Plan (plans.ChannelsDiffer piece)))

abbrev pub bounds_rule : Result PieceBounds PlanFault → Option SpliceFault
bounds_rule (Ok b) = None
bounds_rule (Err e) = Some (Plan e)

-- At frame 0: the piece goes on from the rendition before, and frames stand at its positions.
abbrev pub opening_rule : Asked → UsacConfig → Option SpliceFault
opening_rule a c = or_then (level_rule a.piece a.before c) (bounds_rule (bounds_result a.piece (frame_length c) a.position a.until))

-- At a later frame: its configuration is that of frame 0.
abbrev pub change_rule : UsacConfig → ℕ → UsacConfig → Option SpliceFault
change_rule first n c = fault_if_not (same first c) (ConfigChanges n)

-- ---- the frame

-- The access unit is a frame.
abbrev pub short_rule : ℕ → Option ℕ → Option SpliceFault
short_rule n None = None
short_rule n (Some at) = Some (Frame n at)

abbrev pub carry_rule : ℕ → Result Carried CarryFault → Option SpliceFault
carry_rule n (Ok k) = None
carry_rule n (Err e) = Some (Carry n e)

abbrev pub start_of : Bool → Bool → Result Carried CarryFault → Option SpliceFault
start_of bare independent carried = if bare then fault_if_not independent (NotIndependent 0) else carry_rule 0 carried

-- A stream may begin with frame 0: it is independent, or has a preroll, which carries units.
abbrev pub start_rule : Coded → Option SpliceFault
start_rule f = start_of (preroll_bytes f.config f.au == 0) (unit_in f.config f.au).independent (carried_in f.config f.au)

-- ---- the join

-- The configuration is another one than that of the rendition before.
abbrev pub other_rule : Option UsacConfig → ℕ → UsacConfig → Option SpliceFault
other_rule None n c = None
other_rule (Some b) n c = if same b c then Some (SameConfig n) else None

abbrev pub foreign_rule : ℕ → Option ℕ → Option SpliceFault
foreign_rule n None = None
foreign_rule n (Some k) = Some (PrerollForeign n k)

-- There are as many units as are needed, and they are those that the stream has before.
abbrev pub units_rule : ℕ → ℕ → List UnitValue → List UnitValue → Option SpliceFault
units_rule n need before units = if nat_lt (length units) need then Some (TooFew n (length units) need) else foreign_rule n (foreign before units)

abbrev pub carried_rule : ℕ → ℕ → List UnitValue → Result Carried CarryFault → Option SpliceFault
carried_rule n need before (Err e) = Some (Carry n e)
carried_rule n need before (Ok k) = units_rule n need before k.units

-- Frame n may be joined to the rendition before, or given out first where there is none. Its stream has these units before it.
abbrev pub join_rule : Option UsacConfig → ℕ → ℕ → List UnitValue → UsacConfig → Result Carried CarryFault → Option SpliceFault
join_rule last n need before c carried = or_then (other_rule last n c) (carried_rule n need before carried)

-- the frame at which the piece begins
abbrev pub from_of : Asked → UsacConfig → ℕ
from_of a c = a.position / frame_length c

-- Frame 0 is joined where the piece begins with it and there is a rendition before. The units before it are those that it carries.
abbrev pub first_rule : Asked → ℕ → UsacConfig → Result Carried CarryFault → Option SpliceFault
first_rule a need c carried = if (from_of a c == 0) && is_some a.before then join_rule a.before 0 need (units_in carried) c carried else None

-- A later frame is joined where the piece begins with it.
abbrev pub later_rule : Asked → ℕ → ℕ → List UnitValue → UsacConfig → Result Carried CarryFault → Option SpliceFault
later_rule a n need before c carried = if from_of a c == n then join_rule a.before n need before c carried else None

-- ---- all rules

-- The first rule that frame 0 breaks.
abbrev pub first_fault : Asked → ℕ → Coded → Option SpliceFault
first_fault a need f =
    or_then (opening_rule a f.config)
    (or_then (short_rule 0 (short_at f.config f.au))
    (or_then (start_rule f) (first_rule a need f.config (carried_in f.config f.au))))

-- The first rule, behind that of the configuration, that frame n breaks, in a stream with these units before it.
abbrev pub later_fault : Asked → ℕ → List UnitValue → ℕ → Coded → Option SpliceFault
later_fault a n before need f = or_then (short_rule n (short_at f.config f.au)) (later_rule a n need before f.config (carried_in f.config f.au))

-- The first rule that a frame breaks: as frame 0; or as frame n, behind frames of the configuration of frame 0.
abbrev pub fault_of : Asked → Option UsacConfig → ℕ → List UnitValue → ℕ → Coded → Option SpliceFault
fault_of a None n before need f = first_fault a need f
fault_of a (Some first) n before need f = or_then (change_rule first n f.config) (later_fault a n before need f)
