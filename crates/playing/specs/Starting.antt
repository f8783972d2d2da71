-- What `start` writes for the frames of a stream from one of them on, and which of them it refuses.
use Rattle.std.specs.Prelude.{◌≡◌, ℕ, ◌≤◌, Bool, true, false, ◌&&◌, ◌==◌, nat_lt, List, length, drop, Option, Some, None, if◌then◌else◌}
use Rattle.core_iface.specs.Decoding.{Definitions}
use Rattle.core_iface.specs.Answering.{Running}
use Rattle.switch_player.specs.declared.fault.PlayFault.{PlayFault}
use Rattle.tool_text.specs.declared.refusal.Place.TheVariants as places
use Rattle.tool_text.specs.declared.refusal.Reason.TheVariants as reasons
use Rattle.tool_text.specs.declared.refusal.Refusal.{Refusal}
use Rattle.au_stream.specs.Frames.{Frame, config_of}
use Rattle.commands.specs.Commands.{Command, opens_silently, ClosesSilently}
use Rattle.playing.specs.declared.frame_player.Entry.{Entry}
use Rattle.playing.specs.declared.frame_player.Entry.TheVariants.{Next, Within}
use Rattle.playing.specs.declared.start_task.Start.{Start}
use Rattle.playing.specs.PlayFaults.{refusal_of_play}
use Rattle.playing.specs.PlayedFrame.{PlayerRefuses}
use Rattle.playing.specs.Playing.{last_config, output, play_units, IsServed}
use Rattle.playing.specs.Standing.{PlayerStands}

-- the frame behind these is skipped
abbrev pub is_skipped : ℕ → List Frame → Bool
is_skipped first before = nat_lt (length before) first

-- the frames from the first one on that is played
abbrev pub from_first : ℕ → List Frame → List Frame
from_first first frames = drop first frames

-- A player starts at the first frame as one within a stream; but frame 0 begins one, as with `play`.
abbrev pub entry_at : ℕ → ℕ → Entry
entry_at first number = if nat_lt 0 first && (number == first) then Within else Next

-- A frame that is played is refused by the rules of the player, which was given those from the first one on.
abbrev pub PlayedRefuses : Definitions → ℕ → List Frame → Frame → Refusal → Type 0
PlayedRefuses d first before f r =
    (fault : PlayFault) × PlayerRefuses (entry_at first (length before)) d (last_config (from_first first before)) (config_of f) f.au fault × (refusal_of_play (length before) fault ≡ Some r)

-- a skipped one is not refused
abbrev pub RefusesUnless : Bool → Definitions → ℕ → List Frame → Frame → Refusal → Type 0
RefusesUnless true d first before f r = ⊥
RefusesUnless false d first before f r = PlayedRefuses d first before f r

abbrev pub StartRefuses : Definitions → ℕ → List Frame → Frame → Refusal → Type 0
StartRefuses d first before f r = RefusesUnless (is_skipped first before) d first before f r

-- The file ends before the first frame that is to be played.
abbrev pub EndsBefore : ℕ → List Frame → Refusal → Type 0
EndsBefore first frames r = (length frames ≤ first) × (r ≡ record { place = places.Whole; reason = reasons.PastEnd })

-- no unit is fed for a skipped frame
abbrev pub start_units : ℕ → List Frame → Frame → ℕ
start_units first before f = if is_skipped first before then 0 else play_units (from_first first before) f

-- and nothing is asked of the core for it
abbrev pub StartServes : Definitions → ℕ → List Frame → Frame → Type 0
StartServes d first before f = is_skipped first before ≡ false → IsServed d f

-- `start` writes the sample bytes of the frames from one on, as `play` does of a stream of these alone.
abbrev pub starting : Definitions → ℕ → Command
starting d first = record {
  within = None;
  opening = opens_silently;
  Refuses = StartRefuses d first;
  output = λ frames. output d (from_first first frames);
  RefusesEnd = EndsBefore first;
  Closes = ClosesSilently;
  plays = true;
  units = start_units first;
  Serves = StartServes d first;
}

-- The frames before the first one were skipped, the player was fed the others, and the core stands where they lead.
pub record StartStands (d : Definitions) (first : ℕ) (frames : List Frame) (task : Start) (ready : Option Running) : Type 0 where
  pub first_is : task.first ≡ first
  pub count : task.count ≡ length frames
  pub player : PlayerStands d (from_first first frames) task.frames.player ready
