-- StreamMuxConfig of one program of one layer, field by field (ISO/IEC 14496-3).
use Rattle.std.specs.Prelude.{◌≡◌, ℕ, ◌^◌, ◌<◌, ◌≤◌, Bool, true, false, [], length, Option, Some, None, is_some, ◌==◌, nat_lt, if◌then◌else◌}
use Rattle.layout.specs.Layout.{Layout, both, shaped, with_fits, wrapped, checked, constant, where_set, behind, FitsOption}
use Rattle.layout.specs.Tagged.{as_variant}
use Rattle.layout.specs.ToEnd.{inside}
use Rattle.bit_core.specs.Plain.{number, flag}
use Rattle.esc_value.specs.declared.latm_value.LatmValue.{LatmValue}
use Rattle.esc_value.specs.LatmValue.{IsWellFormed as IsLatmWellFormed, latm_value}
use Rattle.asc.specs.declared.asc_config.Asc.{Asc}
use Rattle.asc.specs.Asc.{IsWellFormed as IsAscWellFormed, asc, asc_counted, asc_text}
use Rattle.latm.specs.declared.fault.MuxField.{MuxField}
use Rattle.latm.specs.declared.fault.MuxField.TheVariants as names
use Rattle.latm.specs.declared.fault.MuxFault.{MuxFault}
use Rattle.latm.specs.declared.fault.MuxFault.TheVariants as faults
use Rattle.latm.specs.declared.mux_config.MuxConfig.{MuxConfig}
use Rattle.latm.specs.declared.other_length.OtherLength.{OtherLength}
use Rattle.latm.specs.declared.other_length.OtherLength.TheVariants.{Pairs, Value}
use Rattle.latm.specs.declared.pairs.Run.{Run}
use Rattle.latm.specs.Faults.{from_short, from_asc}
use Rattle.latm.specs.Pairs.{run, largest}

-- a length of other data is at most the largest, and goes with its version: pairs with 0, a value with 1
abbrev pub IsOther : Bool → OtherLength → Type 0
IsOther one (Pairs count bits) = (one ≡ false) × (1 ≤ count) × (bits < 256 ^ count) × (bits ≤ 65535)
IsOther one (Value v) = (one ≡ true) × IsLatmWellFormed v × (v.value ≤ 65535)

-- where ascLen is there it counts the bits of the configuration with its tail; elsewhere there is no tail
abbrev pub IsCounted : Option LatmValue → Asc → Type 0
IsCounted None v = v.tail ≡ []
IsCounted (Some n) v = IsLatmWellFormed n × (length (asc_text v) ≡ n.value)

-- Every field fits its bits and the profile, and what version 1 adds is there exactly for version 1.
pub record IsWellFormed (v : MuxConfig) : Type 0 where
  pub version : v.version < 2
  pub tara : is_some v.tara ≡ (v.version == 1)
  pub fullness_of_tara : FitsOption IsLatmWellFormed v.tara
  pub sub_frames : v.sub_frames < 64
  pub asc_length : is_some v.asc_length ≡ (v.version == 1)
  pub counted : IsCounted v.asc_length v.asc
  pub asc : IsAscWellFormed v.asc
  pub fullness : v.fullness < 256
  pub other : FitsOption (IsOther (v.version == 1)) v.other
  pub crc : FitsOption (λ c. c < 256) v.crc

abbrev pub latm : Layout LatmValue MuxFault
latm = wrapped from_short latm_value

abbrev pub out_of : MuxField → ℕ → MuxFault
out_of name at = faults.OutOfProfile at name

-- a number of n bits of which the profile takes one value alone
abbrev pub fixed : MuxField → ℕ → ℕ → Layout (Unit {0}) MuxFault
fixed name n value = constant (out_of name) value (number from_short n)

-- audioMuxVersionA and taraBufferFullness, for version 1
abbrev pub tara_fields : Layout LatmValue MuxFault
tara_fields = behind (fixed names.AudioMuxVersionA 1 0) latm

abbrev pub of_version : Bool → Layout (Option LatmValue) MuxFault
of_version one = where_set one tara_fields

abbrev pub short_at : ℕ → MuxFault
short_at at = faults.Short at

-- an AudioSpecificConfig: where ascLen is there, in so many bits, judged by themselves
abbrev pub asc_of : Option LatmValue → Layout Asc MuxFault
asc_of None = wrapped from_asc asc
asc_of (Some n) = inside short_at n.value (wrapped from_asc asc_counted)

-- ascLen, for version 1, and the AudioSpecificConfig
abbrev pub configuration : Bool → Layout (Option LatmValue × Asc) MuxFault
configuration one = both (where_set one latm) asc_of

-- a length over the largest is refused at its first bit
abbrev pub other_over : ℕ → Option (ℕ → MuxFault)
other_over n = if nat_lt largest n then Some (out_of names.OtherDataLenBits) else None

-- The length of other data as pairs; as soon as the number exceeds the largest it is refused.
abbrev pub pairs : Layout (ℕ × ℕ) MuxFault
pairs = shaped (λ (count, bits). record { count = count; bits = bits; more = false }) (λ w. (w.count, w.bits))
    (checked (λ (w : Run). other_over w.bits) (wrapped from_short run))

abbrev pub pairs_of : OtherLength → Option (ℕ × ℕ)
pairs_of (Pairs count bits) = Some (count, bits)
pairs_of (Value v) = None

abbrev pub value_of : OtherLength → Option LatmValue
value_of (Pairs count bits) = None
value_of (Value v) = Some v

-- otherDataLenBits: a value for version 1, pairs for version 0
abbrev pub other_length : Bool → Layout OtherLength MuxFault
other_length true = as_variant Value value_of (checked (λ (v : LatmValue). other_over v.value) latm)
other_length false = as_variant (λ (x : ℕ × ℕ). Pairs x.0 x.1) pairs_of pairs

-- audioMuxVersion, audioMuxVersionA, taraBufferFullness, allStreamsSameTimeFraming, numSubFrames, numProgram, numLayer
abbrev pub head : Layout (ℕ × (Option LatmValue × ℕ)) MuxFault
head = both (number from_short 1) (λ version. both (of_version (version == 1)) (λ _.
    behind (fixed names.AllStreamsSameTimeFraming 1 1) (shaped (λ n. (n, (tt, tt))) (λ x. x.0) (both (number from_short 6) (λ _. both (fixed names.NumProgram 4 0) (λ _. fixed names.NumLayer 3 0))))))

-- otherDataPresent and otherDataLenBits, crcCheckPresent and crcCheckSum
abbrev pub last : Bool → Layout (Option OtherLength × Option ℕ) MuxFault
last one = shaped (λ (other, crc). (is_some other, (other, (is_some crc, crc)))) (λ (_, (other, (_, crc))). (other, crc))
    (both (flag from_short) (λ there. both (where_set there (other_length one)) (λ _. both (flag from_short) (λ there. where_set there (number from_short 8)))))

-- the head, the AudioSpecificConfig, frameLengthType, latmBufferFullness, other data and the sum
abbrev pub fields : Layout MuxConfig MuxFault
fields = shaped
    (λ v. ((v.version, (v.tara, v.sub_frames)), ((v.asc_length, v.asc), (v.fullness, (v.other, v.crc)))))
    (λ ((version, (tara, sub_frames)), ((asc_length, asc), (fullness, (other, crc)))). record {
      version = version;
      tara = tara;
      sub_frames = sub_frames;
      asc_length = asc_length;
      asc = asc;
      fullness = fullness;
      other = other;
      crc = crc;
    })
    (both head (λ h. both (configuration (h.0 == 1)) (λ _. behind (fixed names.FrameLengthType 3 0) (both (number from_short 8) (λ _. last (h.0 == 1))))))

-- the well formed ones, in these fields
abbrev pub mux_config : Layout MuxConfig MuxFault
mux_config = with_fits IsWellFormed fields
