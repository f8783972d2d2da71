-- What holds of every insertion that no rule refuses.
use Rattle.std.specs.Prelude.{◌≡◌, ◌-◌, ℕ, Bool, true, List, map, take, drop, Option, Some, None, slice_get}
use Rattle.usac_cfg.specs.declared.usac_config.UsacConfig.{UsacConfig}
use Rattle.usac_frame.specs.declared.frame.Frame.{Frame}
use Rattle.usac_frame.specs.AccessUnit.{IsFrame}
use Rattle.usac_frame.specs.Units.{UnitValue}
use Rattle.preroll.specs.Carried.{Carries}
use Rattle.latm.specs.declared.stream.Stream.{Stream}
use Rattle.latm.specs.Stream.{IsWellFormed, frames_of, config_in, au_in}
use Rattle.stream_edit.specs.Laws.{unit_of_frame, KeepsFrames}
use Rattle.stream_edit.specs.Targets.{is_target}
use Rattle.ipf_insert.specs.Inserting.{inserted}
use Rattle.ipf_insert.specs.Relation.{IsInserted}
use Rattle.ipf_insert.specs.Rules.{insert_fault}

-- Nothing but the slots of the targets changes.
abbrev pub OnlyTargetsChange : Type 0
OnlyTargetsChange = (s : Stream) (count : ℕ) (fade : Bool) (targets : List ℕ) → IsWellFormed s → insert_fault s count fade targets ≡ None → IsInserted s (inserted s count fade targets) count fade targets

-- What is made is a well formed stream.
abbrev pub StaysWellFormed : Type 0
StaysWellFormed = (s : Stream) (count : ℕ) (fade : Bool) (targets : List ℕ) → IsWellFormed s → insert_fault s count fade targets ≡ None → IsWellFormed (inserted s count fade targets)

-- Each frame has the configuration and the unit that it had, though every core bit of a target moved.
abbrev pub UnitsStay : Type 0
UnitsStay = (s : Stream) (count : ℕ) (fade : Bool) (targets : List ℕ) → IsWellFormed s → insert_fault s count fade targets ≡ None → KeepsFrames s (inserted s count fade targets)

-- A frame carries exactly these units, with this flag.
abbrev pub CarriesUnits : Option (UsacConfig × List ℕ) → Bool → List UnitValue → Type 0
CarriesUnits None fade units = ⊥
CarriesUnits (Some f) fade units = (g : Frame) × IsFrame (config_in f) (au_in f) g × Carries (config_in f) g fade units

-- A target carries exactly the units of so many frames before it.
abbrev pub TargetsCarry : Type 0
TargetsCarry = (s : Stream) (count : ℕ) (fade : Bool) (targets : List ℕ) (t : ℕ) → IsWellFormed s → insert_fault s count fade targets ≡ None → is_target targets t ≡ true
    → CarriesUnits (slice_get (frames_of (inserted s count fade targets)) t) fade (take count (drop (t - count) (map unit_of_frame (frames_of s))))
