-- What holds of targets, and what a change of them may keep.
use Rattle.std.specs.Prelude.{◌≡◌, ◌-◌, ◌<◌, ◌≤◌, ◌⊎◌, ℕ, List, length, map, get_or, None, Some}
use Rattle.usac_cfg.specs.declared.usac_config.UsacConfig.{UsacConfig}
use Rattle.usac_frame.specs.AccessUnit.{unit_in}
use Rattle.usac_frame.specs.Units.{UnitValue}
use Rattle.latm.specs.declared.stream.Stream.{Stream}
use Rattle.latm.specs.Stream.{frames_of, config_in, au_in}
use Rattle.stream_edit.specs.Targets.{misplaced}

-- The target at a place is no frame of so many, or not larger than the one before it.
abbrev pub IsMisplaced : ℕ → List ℕ → ℕ → Type 0
IsMisplaced frames targets place = (place < length targets) × ((frames ≤ get_or targets place 0) ⊎ ((1 ≤ place) × (get_or targets place 0 ≤ get_or targets (place - 1) 0)))

-- `misplaced` finds the first target that is misplaced, and nothing where none is.
pub record FindsMisplaced : Type 0 where
  pub none : (frames : ℕ) (targets : List ℕ) → misplaced frames targets ≡ None → (place : ℕ) → IsMisplaced frames targets place → ⊥
  pub first : (frames : ℕ) (targets : List ℕ) (place : ℕ) → misplaced frames targets ≡ Some place
      → IsMisplaced frames targets place × ((earlier : ℕ) → earlier < place → IsMisplaced frames targets earlier → ⊥)

-- ---- units

abbrev pub unit_of_frame : UsacConfig × List ℕ → UnitValue
unit_of_frame f = unit_in (config_in f) (au_in f)

-- Each frame has the configuration and the unit that it had.
pub record KeepsFrames (s new : Stream) : Type 0 where
  pub configs : map config_in (frames_of new) ≡ map config_in (frames_of s)
  pub units : map unit_of_frame (frames_of new) ≡ map unit_of_frame (frames_of s)
