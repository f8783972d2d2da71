-- Numbers with the count of the bytes that spell them (ISO/IEC 14496-3, LatmGetValue()).
use Rattle.std.specs.Prelude.{◌≡◌, ◌+◌, ◌-◌, ◌*◌, ◌^◌, ◌<◌, ◌≤◌, Bool, List, ◌++◌}
use Rattle.bit_core.specs.declared.faults.Short.{Short}
use Rattle.layout.specs.Text.{num}
use Rattle.layout.specs.Layout.{Layout, both, shaped, whole, IsProperPrefix}
use Rattle.bit_core.specs.Plain.{bits, short_at}
use Rattle.esc_value.specs.declared.latm_value.LatmValue.{LatmValue}

-- One to four bytes, which hold the value.
pub record IsWellFormed (v : LatmValue) : Type 0 where
  pub some : 1 ≤ v.bytes
  pub four : v.bytes ≤ 4
  pub held : v.value < 256 ^ v.bytes

-- bytesForValue, which is one less than the number of bytes, and the bytes
abbrev pub latm_text : LatmValue → List Bool
latm_text v = num 2 (v.bytes - 1) ++ num (8 * v.bytes) v.value

-- the fields as they are read
abbrev pub latm_fields : Layout LatmValue Short
latm_fields = shaped
    (λ v. (v.bytes - 1, v.value))
    (λ (more, value). record { bytes = more + 1; value = value })
    (both (bits 2) (λ more. bits (8 * (more + 1))))

-- The well formed numbers. The one fault is that the text ends within a spelling, and it stands at the first bit.
abbrev pub latm_value : Layout LatmValue Short
latm_value = record {
  Fits = IsWellFormed;
  spelling = latm_text;
  Faults = λ at f t. (f ≡ short_at at) × ((v : LatmValue) × IsWellFormed v × IsProperPrefix t (latm_text v));
  read = let L = whole short_at latm_fields in L.read;
}
