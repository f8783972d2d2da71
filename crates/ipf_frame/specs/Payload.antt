-- The payload of a new preroll (ISO/IEC 23003-3, AudioPreRoll).
use Rattle.std.specs.Prelude.{◌≡◌, ℕ, Bool, false, List, [], map}
use Rattle.layout.specs.Text.{bits_of, pad}
use Rattle.layout.specs.Each.{FitEach}
use Rattle.usac_cfg.specs.declared.usac_config.UsacConfig.{UsacConfig}
use Rattle.usac_cfg.specs.Spelling.{usac_config}
use Rattle.preroll.specs.declared.preroll.PreRoll.{PreRoll}
use Rattle.preroll.specs.PreRoll.{IsWellFormed, preroll_text}
use Rattle.latm.specs.Bytes.{bytes_of}
use Rattle.ipf_frame.specs.Clean.{clean, IsClean}

-- the bytes of a configuration: its spelling, and the fewest zero bits that fill the last byte
unfoldable pub config_bytes : UsacConfig → List ℕ
config_bytes c = bytes_of (pad (usac_config.spelling c))

-- the configuration, applyCrossfade, the reserved bit 0, and the access units as they are carried
abbrev pub new_preroll : UsacConfig → Bool → List (List ℕ) → PreRoll
new_preroll c fade aus = record { config = config_bytes c; fade = fade; reserved = false; units = map (clean c) aus; tail = [] }

unfoldable pub new_payload : UsacConfig → Bool → List (List ℕ) → List ℕ
new_payload c fade aus = bytes_of (pad (preroll_text (new_preroll c fade aus)))

-- The same as a relation on bits: a preroll of these access units, each as it is carried.
pub record IsNewPreRoll (c : UsacConfig) (fade : Bool) (aus : List (List ℕ)) (p : PreRoll) : Type 0 where
  pub fits : IsWellFormed p
  pub config : bits_of p.config ≡ pad (usac_config.spelling c)
  pub flag : p.fade ≡ fade
  pub reserved : p.reserved ≡ false
  pub units : FitEach (IsClean c) aus p.units
  pub tail : p.tail ≡ []
