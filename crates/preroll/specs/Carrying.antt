-- What a frame shows to whoever plays it or joins a stream there: its unit, and the units that its preroll carries, or the fault
-- of the first rule that it breaks. It is one function, for definitions and proofs that compute with it. What it gives is what
-- `Carries` and `IsFirst` say, and promises are made by these.
use Rattle.std.specs.Prelude.{◌≡◌, ℕ, suc, Bool, List, [], ◌∷◌, length, map, Option, Some, None, Result, Ok, Err, nat_lt, false, ◌==◌, if◌then◌else◌}
use Rattle.std.specs.Option.{option_map_or}
use Rattle.layout.specs.Text.{bits_of}
use Rattle.layout.specs.Reader.{Reader, left}
use Rattle.layout.specs.Laws as Whole
use Rattle.usac_cfg.specs.declared.usac_config.UsacConfig.{UsacConfig}
use Rattle.usac_cfg.specs.declared.faults.CfgFault.{CfgFault}
use Rattle.usac_cfg.specs.Spelling.{usac_config}
use Rattle.usac_cfg.specs.Same.{same}
use Rattle.usac_frame.specs.declared.fault.FrameFault.{FrameFault}
use Rattle.usac_frame.specs.declared.fault.FrameFault.TheVariants as frames
use Rattle.usac_frame.specs.declared.frame.Frame.{Frame}
use Rattle.usac_frame.specs.AccessUnit.{IsFrame, frame_of, unit_in}
use Rattle.usac_frame.specs.Frame.{frame}
use Rattle.usac_frame.specs.FrameExact.{decided}
use Rattle.usac_frame.specs.Units.{UnitValue, unit_of, payload_length, first_payload, is_whole}
use Rattle.preroll.specs.declared.fault.PreFault.{PreFault}
use Rattle.preroll.specs.declared.fault.PreFault.TheVariants as faults
use Rattle.preroll.specs.declared.fault.CarryFault.{CarryFault}
use Rattle.preroll.specs.declared.fault.CarryFault.TheVariants.{NotImmediate, Split, BadPreroll, BadConfig, ConfigDiffers, BadUnit, Nested, FirstDependent}
use Rattle.preroll.specs.declared.preroll.PreRoll.{PreRoll}
use Rattle.preroll.specs.Payload.{preroll_of, fault_of}
use Rattle.preroll.specs.Carried.{preroll_bytes, starts_independent, IsFirst, Carries}

-- what a frame carries: applyCrossfade, and the units
pub record Carried : Type 0 where
  pub fade : Bool
  pub units : List UnitValue

-- The frame carries this, or this is its first fault.
abbrev pub IsJudged : UsacConfig → Frame → Result Carried CarryFault → Type 0
IsJudged c f (Ok k) = Carries c f k.fade k.units
IsJudged c f (Err e) = IsFirst c f e

-- ---- the rules, one by one

abbrev pub first_of : Option CarryFault → Option CarryFault → Option CarryFault
first_of None y = y
first_of (Some x) y = Some x

abbrev pub own_config : Result (UsacConfig × Reader) CfgFault → Option UsacConfig
own_config (Err e) = None
own_config (Ok x) = if nat_lt 7 (length (left x.1)) then None else Some x.0

-- the configuration that bytes are, with at most 7 bits behind it
unfoldable pub config_in : List ℕ → Option UsacConfig
config_in bytes = own_config (usac_config.read (record { text = bits_of bytes; at = 0 }))

abbrev pub config_judged : UsacConfig → Option UsacConfig → Option CarryFault
config_judged c None = Some BadConfig
config_judged c (Some d) = if same d c then None else Some ConfigDiffers

abbrev pub config_rule : UsacConfig → List ℕ → Option CarryFault
config_rule c [] = None
config_rule c (b ∷ bytes) = config_judged c (config_in (b ∷ bytes))

abbrev pub frame_short : Option FrameFault → Option ℕ
frame_short None = None
frame_short (Some (frames.Short at)) = Some at
frame_short (Some (frames.Memory e)) = Some 0

-- the bit at which an access unit is too short to be a frame
unfoldable pub short_at : UsacConfig → List ℕ → Option ℕ
short_at c u = frame_short (Whole.fault_of (frame c) (decided c) (bits_of u))

abbrev pub behind_short : Option (ℕ × ℕ) → Option (ℕ × ℕ)
behind_short None = None
behind_short (Some x) = Some (suc x.0, x.1)

abbrev pub first_short : Option ℕ → Option (ℕ × ℕ) → Option (ℕ × ℕ)
first_short None later = behind_short later
first_short (Some at) later = Some (0, at)

-- the first of the access units that is no frame, and the bit
abbrev pub short_unit : UsacConfig → List (List ℕ) → Option (ℕ × ℕ)
short_unit c [] = None
short_unit c (u ∷ us) = first_short (short_at c u) (short_unit c us)

abbrev pub short_rule : Option (ℕ × ℕ) → Option CarryFault
short_rule None = None
short_rule (Some x) = Some (BadUnit x.0 x.1)

abbrev pub behind_place : Option ℕ → Option ℕ
behind_place None = None
behind_place (Some k) = Some (suc k)

-- the first of the access units that has a preroll itself
abbrev pub nested_unit : UsacConfig → List (List ℕ) → Option ℕ
nested_unit c [] = None
nested_unit c (u ∷ us) = if nat_lt 0 (preroll_bytes c u) then Some 0 else behind_place (nested_unit c us)

abbrev pub nested_rule : Option ℕ → Option CarryFault
nested_rule None = None
nested_rule (Some k) = Some (Nested k)

abbrev pub first_rule : Bool → Option CarryFault
first_rule independent = if independent then None else Some FirstDependent

-- the first fault of a preroll that could be read
abbrev pub preroll_rule : UsacConfig → Frame → PreRoll → Option CarryFault
preroll_rule c f p =
    first_of (config_rule c p.config)
    (first_of (short_rule (short_unit c p.units)) (first_of (nested_rule (nested_unit c p.units)) (first_rule (starts_independent c f p.units))))

abbrev pub or_carried : UsacConfig → PreRoll → Option CarryFault → Result Carried CarryFault
or_carried c p None = Ok (record { fade = p.fade; units = map (unit_in c) p.units })
or_carried c p (Some e) = Err e

abbrev pub bit_of : Option PreFault → ℕ
bit_of None = 0
bit_of (Some (faults.Short at)) = at
bit_of (Some (faults.Memory e)) = 0

abbrev pub opened : UsacConfig → Frame → Option PreRoll → Option PreFault → Result Carried CarryFault
opened c f None bad = Err (BadPreroll (bit_of bad))
opened c f (Some p) bad = or_carried c p (preroll_rule c f p)

-- ---- a frame, and an access unit

-- What a frame carries, or its first fault.
unfoldable pub carried_of : UsacConfig → Frame → Result Carried CarryFault
carried_of c f =
    if payload_length c f == 0 then Err NotImmediate
    else (if is_whole f then opened c f (preroll_of (first_payload f)) (fault_of (first_payload f)) else Err Split)

-- The same of an access unit. One that is no frame has no preroll.
unfoldable pub carried_in : UsacConfig → List ℕ → Result Carried CarryFault
carried_in c au = option_map_or (carried_of c) (frame_of c au) (Err NotImmediate)

-- A frame as whoever plays or joins it sees it: the configuration, the unit, and what is carried.
pub record Shown : Type 0 where
  pub config : UsacConfig
  pub unit : UnitValue
  pub carried : Result Carried CarryFault

-- what an access unit of a configuration shows
abbrev pub shown : UsacConfig → List ℕ → Shown
shown c au = record { config = c; unit = unit_in c au; carried = carried_in c au }

-- The access unit is a frame, which shows this.
pub record Shows (c : UsacConfig) (au : List ℕ) (s : Shown) : Type 0 where
  pub read : Frame
  pub is : IsFrame c au read
  pub config : s.config ≡ c
  pub unit : s.unit ≡ unit_of c read
  pub carried : IsJudged c read s.carried

-- the units that are carried, and whether the old stream is to fade into the frame
abbrev pub units_in : Result Carried CarryFault → List UnitValue
units_in (Ok k) = k.units
units_in (Err e) = []

abbrev pub fades_in : Result Carried CarryFault → Bool
fades_in (Ok k) = k.fade
fades_in (Err e) = false
