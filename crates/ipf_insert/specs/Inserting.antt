-- What an insertion makes of a stream (ISO/IEC 14496-3, AudioMuxElement; ISO/IEC 23003-3, AudioPreRoll): each target becomes a
-- frame that carries the access units before it, and nothing else changes.
use Rattle.std.specs.Prelude.{◌-◌, ℕ, Bool, List, [], ◌∷◌, map, take, drop, Option, Some, None}
use Rattle.usac_cfg.specs.declared.usac_config.UsacConfig.{UsacConfig}
use Rattle.latm.specs.declared.stream.Stream.{Stream}
use Rattle.latm.specs.Stream.{frames_of, au_in}
use Rattle.stream_edit.specs.Edited.{edited}
use Rattle.ipf_frame.specs.Payload.{new_payload}
use Rattle.ipf_frame.specs.Slot.{new_slot}

-- what the targets of an insertion share: the configuration and the access units of the stream, how many units are carried,
-- and applyCrossfade
pub record Settled : Type 0 where
  pub config : UsacConfig
  pub aus : List (List ℕ)
  pub count : ℕ
  pub fade : Bool

abbrev pub settled_of : List (UsacConfig × List ℕ) → ℕ → Bool → Option Settled
settled_of [] count fade = None
settled_of (f ∷ fs) count fade = Some (record { config = f.0; aus = map au_in (f ∷ fs); count = count; fade = fade })

-- so many access units directly before frame t
abbrev pub units_before : ℕ → ℕ → List (List ℕ) → List (List ℕ)
units_before count t aus = take count (drop (t - count) aus)

-- the payload of a target's preroll
abbrev pub payload_at : Settled → ℕ → List ℕ
payload_at i t = new_payload i.config i.fade (units_before i.count t i.aus)

-- what becomes of the access unit of frame t, a target: it carries the units before it
abbrev pub target_slot : Settled → ℕ → List ℕ → List ℕ
target_slot i t au = new_slot i.config i.fade (units_before i.count t i.aus) au

abbrev pub stream_in : Option Settled → List ℕ → Stream → Stream
stream_in None targets s = s
stream_in (Some i) targets s = edited (target_slot i) targets s

-- the stream with these targets inserted
abbrev pub inserted : Stream → ℕ → Bool → List ℕ → Stream
inserted s count fade targets = stream_in (settled_of (frames_of s) count fade) targets s
