-- The configuration of an extension element (ISO/IEC 23003-3, UsacExtElementConfig).
use Rattle.std.specs.Prelude.{ℕ, zero, suc, ◌+◌, ◌<◌, ◌≤◌, List, Option, Some, None, length, nat_lt}
use Rattle.std.specs.List.{AllByRecursion}
use Rattle.layout.specs.Layout.{Layout, both, shaped, with_fits, where_set}
use Rattle.bit_core.specs.Plain.{flag, run_of_bytes}
use Rattle.esc_value.specs.Escaped.{escaped_value}
use Rattle.usac_cfg.specs.declared.extension_element.ExtConfig.{ExtConfig}
use Rattle.usac_cfg.specs.declared.faults.CfgFault.{CfgFault}
use Rattle.usac_cfg.specs.Faults.{from_short, from_read}

-- Each number is at most the largest that its field can have, and the bytes are bytes.
pub record IsWellFormed (v : ExtConfig) : Type 0 where
  pub kind : v.kind ≤ 65805
  pub default_length : v.default_length ≤ 65791
  pub length : length v.bytes ≤ 65805
  pub bytes : AllByRecursion (λ b. b < 256) v.bytes

-- what is coded of a default length: one less, or nothing where there is none
abbrev pub coded : ℕ → Option ℕ
coded zero = None
coded (suc n) = Some n

abbrev pub decoded : Option ℕ → ℕ
decoded None = 0
decoded (Some n) = n + 1

-- usacExtElementDefaultLengthPresent, usacExtElementDefaultLength - 1
abbrev pub default_length : Layout ℕ CfgFault
default_length = shaped (λ n. (nat_lt 0 n, coded n)) (λ x. decoded x.1) (both (flag from_short) (λ there. where_set there (escaped_value from_short 8 16 0)))

-- usacExtElementType, usacExtElementConfigLength, the default length, usacExtElementPayloadFrag, the bytes
abbrev pub fields : Layout ExtConfig CfgFault
fields = shaped
    (λ v. (v.kind, (length v.bytes, (v.default_length, (v.frag, v.bytes)))))
    (λ (kind, (_, (default_length, (frag, bytes)))). record { kind = kind; default_length = default_length; frag = frag; bytes = bytes })
    (both (escaped_value from_short 4 8 16) (λ _. both (escaped_value from_short 4 8 16) (λ n. both default_length (λ _. both (flag from_short) (λ _. run_of_bytes from_read n)))))

-- the well formed ones, in these fields
abbrev pub extension_element : Layout ExtConfig CfgFault
extension_element = with_fits IsWellFormed fields
