-- The segments of a stream: its longest runs of frames with one UsacConfig (ISO/IEC 23003-3).
use Rattle.std.specs.Prelude.{◌≡◌, ◌≢◌, ◌<◌, List, [], ◌∷◌, length, Option, Some, None}
use Rattle.std.specs.List.{flat_map, AllByRecursion}
use Rattle.std.specs.Option.{option_map}
use Rattle.usac_cfg.specs.declared.usac_config.UsacConfig.{UsacConfig}
use Rattle.au_stream.specs.Frames.{Frame, config_of, last_of}

pub record Segment : Type 0 where
  pub config : UsacConfig
  pub frames : List Frame

-- It has a frame, and each of its frames has its configuration.
pub record IsRun (s : Segment) : Type 0 where
  pub some : 0 < length s.frames
  pub one : AllByRecursion (λ f. config_of f ≡ s.config) s.frames

-- Two segments beside each other have two configurations.
abbrev pub AreApart : List Segment → Type 0
AreApart [] = Unit {0}
AreApart (s ∷ []) = Unit {0}
AreApart (s ∷ t ∷ segments) = (s.config ≢ t.config) × AreApart (t ∷ segments)

-- These are the segments of the frames.
pub record AreSegments (frames : List Frame) (segments : List Segment) : Type 0 where
  pub joined : flat_map (λ s. s.frames) segments ≡ frames
  pub runs : AllByRecursion IsRun segments
  pub apart : AreApart segments

-- ---- for those who split a stream frame by frame

-- the configuration of the last segment
abbrev pub last_config : List Segment → Option UsacConfig
last_config [] = None
last_config (s ∷ []) = Some s.config
last_config (s ∷ t ∷ segments) = last_config (t ∷ segments)

-- the segments of frames that end with the configuration of the last frame
pub record Split (frames : List Frame) (segments : List Segment) : Type 0 where
  pub are : AreSegments frames segments
  pub last : last_config segments ≡ option_map config_of (last_of frames)
