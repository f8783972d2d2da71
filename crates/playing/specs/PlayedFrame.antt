-- What a player does with one frame that is given to it, and what of its samples is written.
use Rattle.std.specs.Prelude.{◌≡◌, ◌⊎◌, ℕ, List, [], Option, Result, Ok, Err, ℤ}
use Rattle.std.specs.Io.KnownBytes.{append_known}
use Rattle.usac_cfg.specs.declared.usac_config.UsacConfig.{UsacConfig}
use Rattle.core_iface.specs.Decoding.{Definitions}
use Rattle.core_iface.specs.Answering.{Meaning}
use Rattle.core_iface.specs.Samples.{sample_bytes}
use Rattle.outside.specs.declared.fault.DeviceFault.{DeviceFault}
use Rattle.outside.specs.declared.fault.DeviceFault.TheVariants as devices
use Rattle.switch_player.specs.declared.fault.PlayFault.{PlayFault}
use Rattle.switch_player.specs.PlayerValue.{PlayerValue}
use Rattle.switch_player.specs.Rules.{Refuses, RefusesAt}
use Rattle.switch_player.specs.Feeding.{Answered, IsPlayed}
use Rattle.commands.specs.declared.frame_end.FrameEnd.{FrameEnd}
use Rattle.commands.specs.Handing.{WrotePart, WroteLess}
use Rattle.commands.specs.OneFrame.{from_device}
use Rattle.playing.specs.declared.frame_player.Entry.{Entry}
use Rattle.playing.specs.declared.frame_player.Entry.TheVariants.{Next, Within}
use Rattle.playing.specs.PlayFaults.{IsEndOf}

-- the rules by which a player refuses a frame that it is given so
abbrev pub PlayerRefuses : Entry → Definitions → Option UsacConfig → UsacConfig → List ℕ → PlayFault → Type 0
PlayerRefuses Next d last c au fault = Refuses d last c au fault
PlayerRefuses Within d last c au fault = RefusesAt d c au fault

-- A part of the bytes was written. Where a write failed, at least the last one was not.
abbrev pub WroteUntil : DeviceFault → Option (List ℕ) → Option (List ℕ) → List ℕ → Type 0
WroteUntil devices.Failed w0 w1 bytes = WroteLess w0 w1 bytes
WroteUntil (devices.Memory e) w0 w1 bytes = WrotePart w0 w1 bytes

-- It was played, and a write of its sample bytes ended so behind a part of them; the first of these may not have been tried.
pub record StopsWriting (R : PlayFault → Type 0) (d : Definitions) (c : UsacConfig) (au : List ℕ) (p q : PlayerValue) (k m : Meaning) (t : List ℤ) (w0 w1 : Option (List ℕ)) (end : FrameEnd) : Type 0 where
  pub played : IsPlayed R d c au p q k m [] t
  pub fault : DeviceFault
  pub ends : end ≡ from_device fault
  pub written : WroteUntil fault w0 w1 (sample_bytes t)

-- The player answered a fault, and nothing was written.
pub record StopsPlaying (number : ℕ) (R : PlayFault → Type 0) (d : Definitions) (c : UsacConfig) (au : List ℕ) (p q : PlayerValue) (k m : Meaning) (t : List ℤ) (w0 w1 : Option (List ℕ)) (end : FrameEnd) : Type 0 where
  pub fault : PlayFault
  pub answered : Answered (Err fault) R d c au p q k m [] t
  pub ends : IsEndOf number fault end
  pub written : w1 ≡ w0

-- What was done with the frame of that number, by the answer. Its samples are t.
abbrev pub PlaysFrame : Result (Unit {0}) FrameEnd → ℕ → (PlayFault → Type 0) → Definitions → UsacConfig → List ℕ → PlayerValue → PlayerValue → Meaning → Meaning → List ℤ → Option (List ℕ) → Option (List ℕ) → Type 0
PlaysFrame (Ok x) number R d c au p q k m t w0 w1 = IsPlayed R d c au p q k m [] t × (w1 ≡ append_known w0 (sample_bytes t))
PlaysFrame (Err end) number R d c au p q k m t w0 w1 = StopsPlaying number R d c au p q k m t w0 w1 end ⊎ StopsWriting R d c au p q k m t w0 w1 end
