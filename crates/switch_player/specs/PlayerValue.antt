-- What is known of a player.
use Rattle.std.specs.Prelude.{Bool, Option}
use Rattle.usac_cfg.specs.declared.usac_config.UsacConfig.{UsacConfig}

-- the configuration of the last frame that was played, if there is one, and whether the player has stopped
pub record PlayerValue : Type 0 where
  pub last : Option UsacConfig
  pub stopped : Bool
