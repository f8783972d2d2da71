-- How far the rules were tried, step by step: for the private functions that try them.
use Rattle.std.specs.Prelude.{◌≡◌, ℕ, ◌<◌, Bool, true, List, take, map, slice_get, Some}
use Rattle.std.specs.List.{AllByRecursion}
use Rattle.std.specs.Option.{option_map_or}
use Rattle.usac_cfg.specs.declared.usac_config.UsacConfig.{UsacConfig}
use Rattle.usac_frame.specs.declared.frame.Frame.{Frame}
use Rattle.usac_frame.specs.AccessUnit.{frame_of}
use Rattle.usac_frame.specs.Units.{payload_length, first_payload, is_whole}
use Rattle.preroll.specs.declared.fault.CarryFault.{CarryFault}
use Rattle.preroll.specs.declared.fault.CarryFault.TheVariants.{NotImmediate, Split, BadPreroll, BadConfig, ConfigDiffers, BadUnit, Nested, FirstDependent, Memory}
use Rattle.preroll.specs.declared.preroll.PreRoll.{PreRoll}
use Rattle.preroll.specs.Payload.{preroll_of}
use Rattle.preroll.specs.Carried.{IsNoConfig, IsOtherConfig, IsShortUnit, Breaks}

-- the fault is one of the configuration's, and it is there
abbrev pub IsConfigFault : UsacConfig → List ℕ → CarryFault → Type 0
IsConfigFault c bytes NotImmediate = ⊥
IsConfigFault c bytes Split = ⊥
IsConfigFault c bytes (BadPreroll at) = ⊥
IsConfigFault c bytes BadConfig = IsNoConfig bytes
IsConfigFault c bytes ConfigDiffers = IsOtherConfig c bytes
IsConfigFault c bytes (BadUnit k at) = ⊥
IsConfigFault c bytes (Nested k) = ⊥
IsConfigFault c bytes FirstDependent = ⊥
IsConfigFault c bytes (Memory e) = ⊥

-- the fault is that of the first access unit that is no frame
abbrev pub IsUnitFault : UsacConfig → List (List ℕ) → CarryFault → Type 0
IsUnitFault c us e = (k : ℕ) × (at : ℕ) × (e ≡ BadUnit k at) × IsShortUnit c us k at

-- no frame has a preroll
abbrev pub HaveNoPreRoll : UsacConfig → List Frame → Type 0
HaveNoPreRoll c fs = AllByRecursion (λ g. payload_length c g ≡ 0) fs

-- the fault is that of the first frame that has one
abbrev pub IsNestedFault : UsacConfig → List Frame → CarryFault → Type 0
IsNestedFault c fs e = (k : ℕ) × (g : Frame) × (e ≡ Nested k) × (slice_get fs k ≡ Some g) × (0 < payload_length c g) × HaveNoPreRoll c (take k fs)

abbrev pub independent : Frame → Bool
independent g = g.independent

-- the first of the frames is independent; where there is none, the frame is
abbrev pub first_independent : Frame → List Frame → Bool
first_independent f fs = option_map_or independent (slice_get fs 0) f.independent

-- The frame is immediate, and its payload is this preroll.
pub record IsOpened (c : UsacConfig) (f : Frame) (p : PreRoll) : Type 0 where
  pub some : payload_length c f ≡ 0 → ⊥
  pub whole : is_whole f ≡ true
  pub is : preroll_of (first_payload f) ≡ Some p

-- These access units are these frames.
abbrev pub AreFrames : UsacConfig → List (List ℕ) → List Frame → Type 0
AreFrames c us fs = map (frame_of c) us ≡ map Some fs

-- No rule is broken, and the access units of the preroll are these frames.
pub record AreCarried (c : UsacConfig) (f : Frame) (p : PreRoll) (fs : List Frame) : Type 0 where
  pub keeps : (e : CarryFault) → Breaks c f e → ⊥
  pub frames : AreFrames c p.units fs
