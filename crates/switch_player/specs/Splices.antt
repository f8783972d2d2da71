-- What a player does with the splice of a plan, and what the plan's blocks are.
use Rattle.std.specs.Prelude.{◌≡◌, ◌*◌, List, [], ◌∷◌, length, map, Option, Some, ℤ, slice_range}
use Rattle.usac_cfg.specs.declared.usac_config.UsacConfig.{UsacConfig}
use Rattle.usac_cfg.specs.UsacConfig.{channels, frame_length}
use Rattle.plans.specs.Coded.{Coded, coded_shown}
use Rattle.plans.specs.Parts.{Part, part_frames, spliced}
use Rattle.plans.specs.OwnPlan.{own_plan}
use Rattle.plans.specs.SoundPlan.{IsSoundPlan}
use Rattle.core_iface.specs.Decoding.{Definitions}
use Rattle.switch_player.specs.Rules.{Refuses, RefusesAt, TakesBy}
use Rattle.switch_player.specs.Streams.{alone}
use Rattle.switch_player.specs.Cuts.{cut_plan}

-- A player takes each of the frames, behind a frame of that configuration, or as the first ones: they break none of its rules.
abbrev pub TakesFrames : Definitions → Option UsacConfig → List Coded → Type 0
TakesFrames d last [] = Unit {0}
TakesFrames d last (f ∷ fs) = TakesBy (Refuses d last f.config f.au) × TakesFrames d (Some f.config) fs

-- The frames' own plan is sound, and they are its splice.
pub record IsOwnSplice (d : Definitions) (fs : List Coded) : Type 0 where
  pub sound : IsSoundPlan d.warm (own_plan fs)
  pub splice : spliced (own_plan fs) ≡ fs

-- the block has as many samples as a frame of all channels
abbrev pub IsBlockOf : Coded → List ℤ → Type 0
IsBlockOf f block = length block ≡ channels f.config * frame_length f.config

-- A player that starts within a stream takes the first of the frames as the one at which it starts, and each of the others.
abbrev pub TakesFramesAt : Definitions → List Coded → Type 0
TakesFramesAt d [] = Unit {0}
TakesFramesAt d (f ∷ fs) = TakesBy (RefusesAt d f.config f.au) × TakesFrames d (Some f.config) fs

-- A player that starts at the first frame of a part takes all of the part, and gives its blocks in its stream decoded alone.
pub record StartsWarm (d : Definitions) (p : Part) : Type 0 where
  pub takes : TakesFramesAt d (part_frames p)
  pub blocks : cut_plan d (own_plan (part_frames p)) ≡ slice_range (alone d (map coded_shown p.stream)) p.from p.to
