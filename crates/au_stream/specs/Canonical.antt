-- Access units that are handed on in the canonical mux: their bytes, and the frames that these carry.
use Rattle.std.specs.Prelude.{◌≡◌, ℕ, ◌<◌, ◌≤◌, List, [], ◌∷◌, Option, None, Some, is_some, All}
use Rattle.std.specs.List.{flat_map}
use Rattle.layout.specs.Layout.{FitsOption}
use Rattle.asc.specs.declared.asc_config.Asc.{Asc}
use Rattle.asc.specs.Asc.{IsWellFormed}
use Rattle.latm.specs.Written.{canonical_config, canonical_length, canonical_bytes}
use Rattle.au_stream.specs.Frames.{Frame}

-- an access unit, with the AudioSpecificConfig that is in force from it on, where that is given anew
pub record Handed : Type 0 where
  pub asc : Option Asc
  pub au : List ℕ

-- It has a canonical LOAS frame.
pub record HasFrame (h : Handed) : Type 0 where
  pub asc : FitsOption IsWellFormed h.asc
  pub au : All (λ byte. byte < 256) h.au
  pub short : canonical_length h.asc h.au ≤ 8191

-- the bytes of these frames, one behind another
abbrev pub bytes_of_handed : List Handed → List ℕ
bytes_of_handed = flat_map (λ h. canonical_bytes h.asc h.au)

-- the AudioSpecificConfig in force behind one that may be given
abbrev pub asc_behind : Asc → Option Asc → Asc
asc_behind before None = before
asc_behind before (Some own) = own

-- The first access unit is handed on with this AudioSpecificConfig.
abbrev pub BeginsWith : Asc → List Handed → Type 0
BeginsWith first [] = Unit {0}
BeginsWith first (h ∷ hs) = h.asc ≡ Some first

-- the frames of the access units: each under the AudioSpecificConfig that was given last, which is `before` in front of them
abbrev pub frames_of_handed : Asc → List Handed → List Frame
frames_of_handed before [] = []
frames_of_handed before (h ∷ hs) =
    record { mux = canonical_config (asc_behind before h.asc); opens = is_some h.asc; au = h.au } ∷ frames_of_handed (asc_behind before h.asc) hs
