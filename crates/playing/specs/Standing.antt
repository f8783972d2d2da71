-- How a player and its core stand behind frames.
use Rattle.std.specs.Prelude.{◌≡◌, List, map, false, Option, None}
use Rattle.core_iface.specs.Decoding.{Definitions}
use Rattle.core_iface.specs.Answering.{Running}
use Rattle.switch_player.specs.PlayerValue.{PlayerValue}
use Rattle.switch_player.specs.Playing.{state_over, standing}
use Rattle.switch_player.specs.Feeding.{IsInStep}
use Rattle.au_stream.specs.Frames.{Frame}
use Rattle.playing.specs.Playing.{play_shown, last_config}

-- where the core stands behind all frames from the first on
abbrev pub state_behind : Definitions → List Frame → Option Running
state_behind d frames = state_over d None (map play_shown frames)

-- The player was fed these frames and goes on, and the core stands where they lead.
pub record PlayerStands (d : Definitions) (frames : List Frame) (p : PlayerValue) (ready : Option Running) : Type 0 where
  pub last : p.last ≡ last_config frames
  pub going : p.stopped ≡ false
  pub in_step : IsInStep d p.last ready
  pub behind : standing p.last ready ≡ state_behind d frames
