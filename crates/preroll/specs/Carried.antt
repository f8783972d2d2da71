-- The units that the preroll of a frame carries, and the rules that it may break (ISO/IEC 23003-3, AudioPreRoll). That a
-- carried access unit has no preroll of its own and that the order of the rules counts is this project's own.
use Rattle.std.specs.Prelude.{◌≡◌, ℕ, ◌<◌, ◌≤◌, Bool, false, List, [], ◌∷◌, ◌++◌, length, take, map, slice_get, Some}
use Rattle.std.specs.List.{AllByRecursion}
use Rattle.std.specs.Option.{option_map_or}
use Rattle.layout.specs.Text.{bits_of}
use Rattle.usac_cfg.specs.declared.usac_config.UsacConfig.{UsacConfig}
use Rattle.usac_cfg.specs.UsacConfig.{IsWellFormed}
use Rattle.usac_cfg.specs.Spelling.{usac_config}
use Rattle.usac_frame.specs.declared.fault.FrameFault.TheVariants as frames
use Rattle.usac_frame.specs.declared.frame.Frame.{Frame}
use Rattle.usac_frame.specs.AccessUnit.{frame_of, unit_in}
use Rattle.usac_frame.specs.Frame.{FrameFaults}
use Rattle.usac_frame.specs.Units.{UnitValue, payload_length, first_payload, is_whole}
use Rattle.preroll.specs.declared.fault.PreFault.TheVariants as faults
use Rattle.preroll.specs.declared.fault.CarryFault.{CarryFault}
use Rattle.preroll.specs.declared.fault.CarryFault.TheVariants.{NotImmediate, Split, BadPreroll, BadConfig, ConfigDiffers, BadUnit, Nested, FirstDependent, Memory}
use Rattle.preroll.specs.declared.preroll.PreRoll.{PreRoll}
use Rattle.preroll.specs.PreRoll.{PreRollFaults}
use Rattle.preroll.specs.Payload.{preroll_of}

-- The payload of part 0 is a preroll, of which this holds.
abbrev pub HasPreRoll : Frame → (PreRoll → Type 0) → Type 0
HasPreRoll f P = (p : PreRoll) × (preroll_of (first_payload f) ≡ Some p) × P p

-- The bytes are the spelling of a well formed configuration, and at most 7 bits behind it.
pub record IsConfigIn (bytes : List ℕ) (d : UsacConfig) : Type 0 where
  pub behind : List Bool
  pub fits : IsWellFormed d
  pub spelled : bits_of bytes ≡ usac_config.spelling d ++ behind
  pub few : length behind ≤ 7

-- there are bytes, and they are no configuration
abbrev pub IsNoConfig : List ℕ → Type 0
IsNoConfig bytes = (0 < length bytes) × ((d : UsacConfig) → IsConfigIn bytes d → ⊥)

-- they are another configuration than this one, in any field
abbrev pub IsOtherConfig : UsacConfig → List ℕ → Type 0
IsOtherConfig c bytes = (d : UsacConfig) × IsConfigIn bytes d × (d ≡ c → ⊥)

abbrev pub IsAFrame : UsacConfig → List ℕ → Type 0
IsAFrame c u = (g : Frame) × (frame_of c u ≡ Some g)

-- Access unit k is no frame, and this bit is the first bit of the field at fault; each one before it is a frame.
abbrev pub IsShortUnit : UsacConfig → List (List ℕ) → ℕ → ℕ → Type 0
IsShortUnit c us k at = (u : List ℕ) × (slice_get us k ≡ Some u) × FrameFaults c (frames.Short at) (bits_of u) × AllByRecursion (IsAFrame c) (take k us)

-- how many bytes of preroll an access unit has
abbrev pub preroll_bytes : UsacConfig → List ℕ → ℕ
preroll_bytes c u = option_map_or (payload_length c) (frame_of c u) 0

-- Access unit k has a preroll, and none before it has one.
abbrev pub IsNestedUnit : UsacConfig → List (List ℕ) → ℕ → Type 0
IsNestedUnit c us k = (u : List ℕ) × (slice_get us k ≡ Some u) × (0 < preroll_bytes c u) × AllByRecursion (λ v. preroll_bytes c v ≡ 0) (take k us)

-- the first access unit is independent; where there is none, the frame is
abbrev pub starts_independent : UsacConfig → Frame → List (List ℕ) → Bool
starts_independent c f [] = f.independent
starts_independent c f (u ∷ us) = (unit_in c u).independent

-- What it is to break a rule, by its fault.
abbrev pub Breaks : UsacConfig → Frame → CarryFault → Type 0
Breaks c f NotImmediate = payload_length c f ≡ 0
Breaks c f Split = is_whole f ≡ false
Breaks c f (BadPreroll at) = PreRollFaults (faults.Short at) (first_payload f)
Breaks c f BadConfig = HasPreRoll f (λ p. IsNoConfig p.config)
Breaks c f ConfigDiffers = HasPreRoll f (λ p. IsOtherConfig c p.config)
Breaks c f (BadUnit k at) = HasPreRoll f (λ p. IsShortUnit c p.units k at)
Breaks c f (Nested k) = HasPreRoll f (λ p. IsNestedUnit c p.units k)
Breaks c f FirstDependent = HasPreRoll f (λ p. starts_independent c f p.units ≡ false)
Breaks c f (Memory e) = ⊥

-- the number of a rule, by its fault
abbrev pub rule : CarryFault → ℕ
rule NotImmediate = 1
rule Split = 2
rule (BadPreroll at) = 3
rule BadConfig = 4
rule ConfigDiffers = 5
rule (BadUnit k at) = 6
rule (Nested k) = 7
rule FirstDependent = 8
rule (Memory e) = 9

-- The fault is that of the first rule that the frame breaks.
pub record IsFirst (c : UsacConfig) (f : Frame) (e : CarryFault) : Type 0 where
  pub breaks : Breaks c f e
  pub before : (g : CarryFault) → rule g < rule e → Breaks c f g → ⊥

-- The frame breaks no rule, and carries the units of its preroll's access units, with this applyCrossfade.
pub record Carries (c : UsacConfig) (f : Frame) (fade : Bool) (units : List UnitValue) : Type 0 where
  pub keeps : (e : CarryFault) → Breaks c f e → ⊥
  pub carried : HasPreRoll f (λ p. (fade ≡ p.fade) × (units ≡ map (unit_in c) p.units))
