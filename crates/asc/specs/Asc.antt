-- AudioSpecificConfig of object type 42, field by field (ISO/IEC 14496-3).
use Rattle.std.specs.Prelude.{◌≡◌, ℕ, ◌+◌, ◌^◌, ◌<◌, ◌≤◌, Bool, true, false, List, [], ◌++◌, length, Option, Some, None, ◌==◌, if◌then◌else◌}
use Rattle.layout.specs.Layout.{Layout, both, shaped, with_fits, wrapped, checked, whole, known, behind, where_set}
use Rattle.layout.specs.ToEnd.{tail}
use Rattle.bit_core.specs.declared.faults.Short.{Short}
use Rattle.bit_core.specs.Plain.{bits, number, short_at}
use Rattle.usac_cfg.specs.UsacConfig.{IsWellFormed as IsUsacWellFormed}
use Rattle.usac_cfg.specs.Spelling.{usac_config}
use Rattle.asc.specs.declared.asc_config.Asc.{Asc}
use Rattle.asc.specs.declared.reading.Head.{Head}
use Rattle.asc.specs.declared.fault.AscFault.{AscFault}
use Rattle.asc.specs.declared.fault.AscFault.TheVariants as faults
use Rattle.asc.specs.Faults.{from_short, from_cfg}

-- samplingFrequency fits in its bits where it is there, and is 0 elsewhere.
abbrev pub IsExplicit : Bool → ℕ → Type 0
IsExplicit true rate = rate < 2 ^ 24
IsExplicit false rate = rate ≡ 0

-- Every field fits its bits, the USAC configuration is well formed, and the tail has at most 7 bits.
pub record IsWellFormed (v : Asc) : Type 0 where
  pub index : v.index < 16
  pub explicit : IsExplicit (v.index == 15) v.explicit_rate
  pub channels : v.channels < 16
  pub usac : IsUsacWellFormed v.usac
  pub tail : length v.tail ≤ 7

-- audioObjectType: five bits, and six more where these are all ones
abbrev pub type_fields : Layout (ℕ × Option ℕ) Short
type_fields = both (bits 5) (λ n. where_set (n == 31) (bits 6))

-- the number of an object type: with the six bits, 32 more than these
abbrev pub type_of : ℕ × Option ℕ → ℕ
type_of (n, None) = n
type_of (n, Some m) = 32 + m

abbrev pub not_usac : ℕ × Option ℕ → Option (ℕ → AscFault)
not_usac x = if type_of x == 42 then None else Some (λ at. faults.NotUsac at (type_of x))

-- An object type is one field, and each one but 42 is refused. It says nothing, and so is no part of what is read.
abbrev pub object_type : Layout (Unit {0}) AscFault
object_type = shaped (λ _. (31, Some 10)) (λ _. tt) (checked not_usac (wrapped from_short (whole short_at type_fields)))

-- samplingFrequency, where the index is 15; else 0 and no bits
abbrev pub explicit : Bool → Layout ℕ AscFault
explicit true = number from_short 24
explicit false = known 0

-- all fields but the tail
abbrev pub head : Layout Head AscFault
head = behind object_type (shaped
    (λ v. (v.index, (v.explicit_rate, (v.channels, v.usac))))
    (λ (index, (explicit_rate, (channels, usac))). record { index = index; explicit_rate = explicit_rate; channels = channels; usac = usac })
    (both (number from_short 4) (λ index. both (explicit (index == 15)) (λ _. both (number from_short 4) (λ _. wrapped from_cfg usac_config)))))

abbrev pub too_long : ℕ → AscFault
too_long at = faults.TailTooLong at

-- the head of a configuration, and a configuration by its head and its tail
abbrev pub head_of : Asc → Head
head_of v = record { index = v.index; explicit_rate = v.explicit_rate; channels = v.channels; usac = v.usac }

abbrev pub with_tail : Head → List Bool → Asc
with_tail h t = record { index = h.index; explicit_rate = h.explicit_rate; channels = h.channels; usac = h.usac; tail = t }

abbrev pub plain_fields : Layout Asc AscFault
plain_fields = shaped (λ v. (head_of v, v.tail)) (λ (h, t). with_tail h t) (both head (λ _. known []))

abbrev pub counted_fields : Layout Asc AscFault
counted_fields = shaped (λ v. (head_of v, v.tail)) (λ (h, t). with_tail h t) (both head (λ _. tail too_long 7))

-- the spelling: the fields, and then the tail
abbrev pub asc_text : Asc → List Bool
asc_text v = head.spelling (head_of v) ++ v.tail

-- The well formed configurations without a tail.
abbrev pub asc : Layout Asc AscFault
asc = with_fits (λ v. IsWellFormed v × (v.tail ≡ [])) plain_fields

-- The well formed configurations with their tails, which take all of a text.
abbrev pub asc_counted : Layout Asc AscFault
asc_counted = record {
  Fits = IsWellFormed;
  spelling = asc_text;
  Faults = counted_fields.Faults;
  read = counted_fields.read;
}
