-- How far a frame was judged: for the private functions that try the rules.
use Rattle.std.specs.Prelude.{◌≡◌, ℕ, List, [], Bool, false, Option, Some, None, Result, Ok, Err, is_some, ◌&&◌, ◌==◌, if◌then◌else◌}
use Rattle.usac_cfg.specs.declared.usac_config.UsacConfig.{UsacConfig}
use Rattle.usac_frame.specs.AccessUnit.{unit_in}
use Rattle.usac_frame.specs.Units.{UnitValue}
use Rattle.preroll.specs.declared.carried_units.CarriedUnits.{CarriedUnits}
use Rattle.preroll.specs.declared.fault.CarryFault.{CarryFault}
use Rattle.preroll.specs.declared.fault.CarryFault.TheVariants.{NotImmediate}
use Rattle.preroll.specs.Carrying.{Carried, units_in, carried_in}
use Rattle.plans.specs.Coded.{Coded}
use Rattle.splicer.specs.declared.asked.Asked.{Asked}
use Rattle.splicer.specs.declared.judged.Judged.{Judged}
use Rattle.splicer.specs.declared.fault.SpliceFault.{SpliceFault}
use Rattle.splicer.specs.declared.fault.SpliceFault.TheVariants.{Plan, ConfigChanges, Frame, NotIndependent, Carry, SameConfig, TooFew, PrerollForeign, Ended, Memory}
use Rattle.splicer.specs.Rules.{or_then, other_rule, from_of, units_rule}
use Rattle.splicer.specs.Turns.{turn_of}

-- This follows of a rule's refusal. Out of memory says nothing, and that the run has ended is not for these functions to say.
abbrev pub IfRule : SpliceFault → Type 0 → Type 0
IfRule (Plan p) P = P
IfRule (ConfigChanges n) P = P
IfRule (Frame n at) P = P
IfRule (NotIndependent n) P = P
IfRule (Carry n e) P = P
IfRule (SameConfig n) P = P
IfRule (TooFew n have need) P = P
IfRule (PrerollForeign n k) P = P
IfRule Ended P = ⊥
IfRule (Memory e) P = Unit {0}

-- A step is refused by this rule, or gives a value of which P holds.
abbrev pub Judges : {A : Type 0} → Result A SpliceFault → Option SpliceFault → (A → Type 0) → Type 0
Judges (Ok v) rule P = (rule ≡ None) × P v
Judges (Err e) rule P = IfRule e (rule ≡ Some e)

-- the same where there is no value
abbrev pub Passes : Result (Unit {0}) SpliceFault → Option SpliceFault → Type 0
Passes (Ok v) rule = rule ≡ None
Passes (Err e) rule = IfRule e (rule ≡ Some e)

-- ---- what is carried

abbrev pub value_of : CarriedUnits → Carried
value_of k = record { fade = k.fade; units = k.units }

abbrev pub head_units : Option CarriedUnits → List UnitValue
head_units None = []
head_units (Some k) = k.units

abbrev pub head_fade : Option CarriedUnits → Bool
head_fade None = false
head_fade (Some k) = k.fade

-- This is what the frame carries; None where it has no preroll.
abbrev pub IsHead : Option CarriedUnits → Result Carried CarryFault → Type 0
IsHead None carried = carried ≡ Err NotImmediate
IsHead (Some k) carried = carried ≡ Ok (value_of k)

-- This is what the frame carries, where the piece begins with it in the course of its stream.
abbrev pub IsJoined : Option CarriedUnits → Asked → ℕ → UsacConfig → Result Carried CarryFault → Type 0
IsJoined None a n c carried = from_of a c ≡ n → ⊥
IsJoined (Some k) a n c carried = carried ≡ Ok (value_of k)

-- the units of frame 0's preroll, before which stand no others
abbrev pub head_rule : ℕ → Option CarriedUnits → Option SpliceFault
head_rule need None = Some (Carry 0 NotImmediate)
head_rule need (Some k) = units_rule 0 need k.units k.units

abbrev pub head_joins : Asked → ℕ → UsacConfig → Option CarriedUnits → Option SpliceFault
head_joins a need c head = if (from_of a c == 0) && is_some a.before then or_then (other_rule a.before 0 c) (head_rule need head) else None

-- What was found of frame n is so.
pub record IsJudged (j : Judged) (a : Asked) (first : Option UsacConfig) (n : ℕ) (f : Coded) : Type 0 where
  pub turn : j.turn ≡ turn_of a first n f
  pub unit : j.unit ≡ unit_in f.config f.au
  pub head : head_units j.head ≡ (if is_some first then [] else units_in (carried_in f.config f.au))

-- the same of a later frame, whatever the configuration of frame 0
abbrev pub IsJudgedLater : Judged → Asked → ℕ → Coded → Type 0
IsJudgedLater j a n f = (first : UsacConfig) → IsJudged j a (Some first) n f
