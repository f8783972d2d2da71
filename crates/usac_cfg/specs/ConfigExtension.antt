-- The extensions of a configuration (ISO/IEC 23003-3, UsacConfigExtension).
use Rattle.std.specs.Prelude.{◌+◌, ◌-◌, ◌<◌, ◌≤◌, Bool, true, false, List, [], ◌∷◌, Option, Some, None, length, unwrap_or}
use Rattle.std.specs.List.{AllByRecursion}
use Rattle.layout.specs.Layout.{Layout, both, shaped, with_fits, where_set}
use Rattle.layout.specs.Times.{times}
use Rattle.bit_core.specs.Plain.{flag, run_of_bytes}
use Rattle.esc_value.specs.Escaped.{escaped_value}
use Rattle.usac_cfg.specs.declared.config_extension.ConfigExt.{ConfigExt}
use Rattle.usac_cfg.specs.declared.faults.CfgFault.{CfgFault}
use Rattle.usac_cfg.specs.Faults.{from_short, from_read}

-- Each number is at most the largest that its field can have, and the bytes are bytes.
pub record IsWellFormed (v : ConfigExt) : Type 0 where
  pub kind : v.kind ≤ 65805
  pub length : length v.bytes ≤ 65805
  pub bytes : AllByRecursion (λ b. b < 256) v.bytes

-- usacConfigExtType, usacConfigExtLength, the bytes
abbrev pub fields : Layout ConfigExt CfgFault
fields = shaped (λ v. (v.kind, (length v.bytes, v.bytes))) (λ (kind, (_, bytes)). record { kind = kind; bytes = bytes })
    (both (escaped_value from_short 4 8 16) (λ _. both (escaped_value from_short 4 8 16) (λ n. run_of_bytes from_read n)))

-- the well formed ones, in these fields
abbrev pub config_extension : Layout ConfigExt CfgFault
config_extension = with_fits IsWellFormed fields

-- UsacConfigExtension: numConfigExtensions, less one, and each extension
abbrev pub some_extensions : Layout (List ConfigExt) CfgFault
some_extensions = shaped (λ vs. (length vs - 1, vs)) (λ x. x.1) (both (escaped_value from_short 2 4 8) (λ n. times (n + 1) config_extension))

abbrev pub is_there : List ConfigExt → Bool
is_there [] = false
is_there (v ∷ vs) = true

abbrev pub unless_empty : List ConfigExt → Option (List ConfigExt)
unless_empty [] = None
unless_empty (v ∷ vs) = Some (v ∷ vs)

-- usacConfigExtensionPresent, and the extensions where it is 1
abbrev pub extensions : Layout (List ConfigExt) CfgFault
extensions = shaped (λ vs. (is_there vs, unless_empty vs)) (λ x. unwrap_or x.1 []) (both (flag from_short) (λ there. where_set there some_extensions))
