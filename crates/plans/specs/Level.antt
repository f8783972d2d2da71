-- Two configurations between which a stream may be joined to another.
use Rattle.std.specs.Prelude.{◌≡◌, ◌≢◌, Option, Some, None}
use Rattle.usac_cfg.specs.declared.usac_config.UsacConfig.{UsacConfig}
use Rattle.usac_cfg.specs.UsacConfig.{rate, channels}

-- The second is another configuration, with the same rate and as many channels.
pub record IsLevel (b c : UsacConfig) : Type 0 where
  pub other : b ≢ c
  pub rate : rate b ≡ rate c
  pub channels : channels b ≡ channels c

-- there are two, and they are so
abbrev pub AreLevel : Option UsacConfig → Option UsacConfig → Type 0
AreLevel None c = ⊥
AreLevel (Some b) None = ⊥
AreLevel (Some b) (Some c) = IsLevel b c
