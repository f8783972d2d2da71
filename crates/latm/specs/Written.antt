-- What is written of an AudioMuxElement, and the canonical mux (ISO/IEC 14496-3, AudioMuxElement and AudioSyncStream).
use Rattle.std.specs.Prelude.{◌≡◌, ℕ, ◌/◌, ◌<◌, ◌≤◌, Bool, true, false, List, [], ◌∷◌, ◌++◌, length, Option, Some, None, Result, IfOk, IfErr}
use Rattle.layout.specs.Text.{bits_of, pad}
use Rattle.asc.specs.declared.asc_config.Asc.{Asc}
use Rattle.loas.specs.Framing.{header, framed}
use Rattle.latm.specs.declared.fault.WriteFault.{WriteFault}
use Rattle.latm.specs.declared.fault.WriteFault.TheVariants as faults
use Rattle.latm.specs.declared.mux_config.MuxConfig.{MuxConfig}
use Rattle.latm.specs.declared.mux_element.MuxElement.{MuxElement}
use Rattle.latm.specs.MuxElement.{element}
use Rattle.latm.specs.Bytes.{bytes_of}

abbrev pub is_memory : WriteFault → Bool
is_memory faults.TooLong = false
is_memory (faults.Memory e) = true

-- the spelling of an element, whatever configuration is in force
abbrev pub element_text : MuxElement → List Bool
element_text = let L = element None in L.spelling

-- The bytes of a text of whole bytes are written, of which there are at most 8191; too long is answered exactly where there
-- would be more, unless memory fails.
pub record Writes (text : List Bool) (result : Result (List ℕ) WriteFault) : Type 0 where
  pub ok : IfOk result (λ bytes. (bits_of bytes ≡ text) × (length text ≤ 65528))
  pub err : IfErr result (λ f. is_memory f ≡ false → 65528 < length text)

-- The same behind the header of a LOAS frame, which counts the bytes of the element.
pub record Frames (text : List Bool) (result : Result (List ℕ) WriteFault) : Type 0 where
  pub ok : IfOk result (λ bytes. (bits_of bytes ≡ bits_of (header (length text / 8)) ++ text) × (length text ≤ 65528))
  pub err : IfErr result (λ f. is_memory f ≡ false → 65528 < length text)

-- the StreamMuxConfig of a canonical element: its AudioSpecificConfig has no tail
abbrev pub canonical_config : Asc → MuxConfig
canonical_config v = record {
  version = 0;
  tara = None;
  sub_frames = 0;
  asc_length = None;
  asc = record { index = v.index; explicit_rate = v.explicit_rate; channels = v.channels; usac = v.usac; tail = [] };
  fullness = 255;
  other = None;
  crc = None;
}

abbrev pub config_of : Option Asc → Option MuxConfig
config_of None = None
config_of (Some v) = Some (canonical_config v)

-- the canonical element of an access unit, without the zero bits behind it
abbrev pub canonical_element : Option Asc → List ℕ → MuxElement
canonical_element v au = record { config = config_of v; slots = au ∷ []; other = []; tail = [] }

-- with the fewest zero bits that make whole bytes
abbrev pub canonical_text : Option Asc → List ℕ → List Bool
canonical_text v au = pad (element_text (canonical_element v au))

-- how many bytes the canonical element has
unfoldable pub canonical_length : Option Asc → List ℕ → ℕ
canonical_length v au = length (bytes_of (canonical_text v au))

-- the bytes of its LOAS frame
unfoldable pub canonical_bytes : Option Asc → List ℕ → List ℕ
canonical_bytes v au = framed (bytes_of (canonical_text v au))

-- The bytes are the LOAS frame of a body that the canonical text is the bits of.
pub record IsCanonical (v : Option Asc) (au frame : List ℕ) : Type 0 where
  pub body : List ℕ
  pub count : length body ≡ canonical_length v au
  pub is : frame ≡ framed body
  pub spelled : bits_of body ≡ canonical_text v au

-- These bytes are written where the element has at most 8191; too long is answered exactly where it has more, unless memory
-- fails.
pub record WritesCanonical (v : Option Asc) (au : List ℕ) (result : Result (List ℕ) WriteFault) : Type 0 where
  pub ok : IfOk result (λ bytes. (bytes ≡ canonical_bytes v au) × (canonical_length v au ≤ 8191))
  pub err : IfErr result (λ f. is_memory f ≡ false → 8191 < canonical_length v au)
