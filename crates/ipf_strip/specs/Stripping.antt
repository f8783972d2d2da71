-- What is left of a stream where prerolls are taken out (ISO/IEC 23003-3, AudioPreRoll): a target becomes a frame without one, and nothing
-- else changes.
use Rattle.std.specs.Prelude.{ℕ, suc, List, [], ◌∷◌, Option, Some, None, slice_get, if◌then◌else◌}
use Rattle.usac_cfg.specs.declared.usac_config.UsacConfig.{UsacConfig}
use Rattle.latm.specs.declared.stream.Stream.{Stream}
use Rattle.latm.specs.Stream.{frames_of, config_in}
use Rattle.stream_edit.specs.Edited.{edited}
use Rattle.ipf_frame.specs.declared.stripping.Tail.{Tail}
use Rattle.ipf_frame.specs.Stripping.{stripped_slot}
use Rattle.ipf_strip.specs.Rules.{immediate}

abbrev pub slot_of : Tail → Option (UsacConfig × List ℕ) → List ℕ → List ℕ
slot_of tail None au = au
slot_of tail (Some f) au = stripped_slot tail (config_in f) au

-- the access unit of frame t, under that frame's configuration, without its preroll
abbrev pub slot_without : Tail → List (UsacConfig × List ℕ) → ℕ → List ℕ → List ℕ
slot_without tail fs t au = slot_of tail (slice_get fs t) au

-- the stream without the prerolls of these targets
abbrev pub stripped : Stream → Tail → List ℕ → Stream
stripped s tail targets = edited (slot_without tail (frames_of s)) targets s

-- the numbers of the immediate play-out frames, from frame n on
abbrev pub immediate_from : ℕ → List (UsacConfig × List ℕ) → List ℕ
immediate_from n [] = []
immediate_from n (f ∷ fs) = if immediate f then n ∷ immediate_from (suc n) fs else immediate_from (suc n) fs

abbrev pub immediate_list : Stream → List ℕ
immediate_list s = immediate_from 0 (frames_of s)
