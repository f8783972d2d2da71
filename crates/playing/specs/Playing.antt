-- What `play` writes for the frames of a stream, and which of them it refuses.
use Rattle.std.specs.Prelude.{◌≡◌, ◌+◌, ℕ, true, List, ◌++◌, length, map, drop, Option, Some, None}
use Rattle.std.specs.Option.{option_map}
use Rattle.usac_cfg.specs.declared.usac_config.UsacConfig.{UsacConfig}
use Rattle.preroll.specs.Carrying.{Shown, shown}
use Rattle.plans.specs.Segments.{own}
use Rattle.core_iface.specs.Decoding.{Definitions, samples_of}
use Rattle.core_iface.specs.Samples.{sample_bytes}
use Rattle.switch_player.specs.declared.fault.PlayFault.{PlayFault}
use Rattle.switch_player.specs.Cuts.{cut}
use Rattle.switch_player.specs.Playing.{before_it}
use Rattle.switch_player.specs.Rules as player
use Rattle.tool_text.specs.declared.refusal.Refusal.{Refusal}
use Rattle.au_stream.specs.Frames.{Frame, config_of, last_of}
use Rattle.commands.specs.Commands.{Command, opens_silently, RefusesNoEnd, ClosesSilently}
use Rattle.playing.specs.PlayFaults.{refusal_of_play}

-- what a frame shows to a player
abbrev pub play_shown : Frame → Shown
play_shown f = shown (config_of f) f.au

-- the configuration of the last frame
abbrev pub last_config : List Frame → Option UsacConfig
last_config frames = option_map config_of (last_of frames)

-- The sample bytes of frames. A longest run of frames with one configuration is a segment, which is decoded alone; where its first
-- frame asks for a fade, what the core has left of the segment before fades into its first block.
abbrev pub output : Definitions → List Frame → List ℕ
output d frames = sample_bytes (samples_of (cut d (own (map play_shown frames))))

-- what stands behind the output of earlier frames
abbrev pub output_on : Definitions → List Frame → List Frame → List ℕ
output_on d earlier frames = drop (length (output d earlier)) (output d (earlier ++ frames))

-- The frame is refused behind those of earlier files and those before it in its own: by a rule of the player.
abbrev pub PlayRefuses : Definitions → List Frame → List Frame → Frame → Refusal → Type 0
PlayRefuses d earlier before f r =
    (fault : PlayFault) × player.Refuses d (last_config (earlier ++ before)) (config_of f) f.au fault × (refusal_of_play (length before) fault ≡ Some r)

-- how many units the player steps for a frame: at a start and at a join those that it carries, and its own
abbrev pub play_units : List Frame → Frame → ℕ
play_units before f = before_it (last_config before) (play_shown f) + 1

-- the core serves the configuration of a frame
abbrev pub IsServed : Definitions → Frame → Type 0
IsServed d f = d.serves (config_of f)

-- `play` writes the sample bytes of frames, each of which it feeds to one player, behind those of earlier files.
abbrev pub playing : Definitions → List Frame → Command
playing d earlier = record {
  within = None;
  opening = opens_silently;
  Refuses = PlayRefuses d earlier;
  output = output_on d earlier;
  RefusesEnd = RefusesNoEnd;
  Closes = ClosesSilently;
  plays = true;
  units = λ before f. play_units (earlier ++ before) f;
  Serves = λ before f. IsServed d f;
}
