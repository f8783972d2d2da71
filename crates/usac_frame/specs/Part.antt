-- What a frame has of an extension element, field by field (ISO/IEC 23003-3, UsacExtElement).
use Rattle.std.specs.Prelude.{◌≡◌, ℕ, ◌+◌, ◌-◌, ◌<◌, ◌≤◌, Bool, true, false, not, ◌&&◌, ◌==◌, nat_lt, List, length, Option, Some, None}
use Rattle.std.specs.List.{AllByRecursion}
use Rattle.layout.specs.Layout.{Layout, both, fitted, known, where_set}
use Rattle.bit_core.specs.Plain.{number, flag, run_of_bytes}
use Rattle.usac_cfg.specs.declared.extension_element.ExtConfig.{ExtConfig}
use Rattle.usac_frame.specs.declared.fault.FrameFault.{FrameFault}
use Rattle.usac_frame.specs.declared.part.LengthForm.{LengthForm}
use Rattle.usac_frame.specs.declared.part.LengthForm.TheVariants.{Default, Byte, Long}
use Rattle.usac_frame.specs.declared.part.ExtPart.{ExtPart}
use Rattle.usac_frame.specs.declared.part.ExtPart.TheVariants.{Absent, Present}
use Rattle.usac_frame.specs.Faults.{from_short, from_read}

-- The length in bytes is the configured one, or one that its form can say.
abbrev pub HasLength : ℕ → LengthForm → ℕ → Type 0
HasLength default Default n = n ≡ default
HasLength default Byte n = n ≤ 254
HasLength default Long n = (253 ≤ n) × (n ≤ 65788)

-- usacExtElementUseDefaultLength; where it is 0, usacExtElementPayloadLength; where that is 255, valueAdd
abbrev pub coded_length : Layout (Bool × Option (ℕ × Option ℕ)) FrameFault
coded_length = both (flag from_short) (λ default. where_set (not default) (both (number from_short 8) (λ byte. where_set (byte == 255) (number from_short 16))))

-- what is coded of a length
abbrev pub coded : LengthForm × ℕ → Bool × Option (ℕ × Option ℕ)
coded (Default, n) = (true, None)
coded (Byte, n) = (false, Some (n, None))
coded (Long, n) = (false, Some (255, Some (n - 253)))

-- and the length that this says: valueAdd counts on from 2 below the 255
abbrev pub decoded : ℕ → Bool × Option (ℕ × Option ℕ) → LengthForm × ℕ
decoded default (use_default, None) = (Default, default)
decoded default (use_default, Some (byte, None)) = (Byte, byte)
decoded default (use_default, Some (byte, Some more)) = (Long, byte + more - 2)

-- the form of a length, and the length in bytes
abbrev pub part_length : ℕ → Layout (LengthForm × ℕ) FrameFault
part_length default = fitted (λ x. HasLength default x.0 x.1) coded (decoded default) coded_length

-- start and stop are coded for a payload of some bytes that may be spread over frames
abbrev pub has_marks : ExtConfig → ℕ → Bool
has_marks e n = nat_lt 0 n && e.frag

-- both are 1 where they are not coded
abbrev pub AreMarks : Bool → Bool → Bool → Type 0
AreMarks true start stop = Unit {0}
AreMarks false start stop = (start ≡ true) × (stop ≡ true)

-- usacExtElementStart, usacExtElementStop
abbrev pub marks : Bool → Layout (Bool × Bool) FrameFault
marks true = both (flag from_short) (λ _. flag from_short)
marks false = known (true, true)

-- what stands behind usacExtElementPresent, where that is 1
abbrev pub body : ExtConfig → Layout ((LengthForm × ℕ) × ((Bool × Bool) × List ℕ)) FrameFault
body e = both (part_length e.default_length) (λ l. both (marks (has_marks e l.1)) (λ _. run_of_bytes from_read l.1))

-- usacExtElementPresent, and the body
abbrev pub part_fields : ExtConfig → Layout (Bool × Option ((LengthForm × ℕ) × ((Bool × Bool) × List ℕ))) FrameFault
part_fields e = both (flag from_short) (λ there. where_set there (body e))

abbrev pub fields_of : ExtPart → Bool × Option ((LengthForm × ℕ) × ((Bool × Bool) × List ℕ))
fields_of Absent = (false, None)
fields_of (Present form start stop payload) = (true, Some ((form, length payload), ((start, stop), payload)))

abbrev pub part_of : Bool × Option ((LengthForm × ℕ) × ((Bool × Bool) × List ℕ)) → ExtPart
part_of (there, None) = Absent
part_of (there, Some ((form, n), ((start, stop), payload))) = Present form start stop payload

-- A present part fits the configuration of its element where its length does, and start and stop are 1 where they are not
-- coded.
pub record IsPresent (e : ExtConfig) (form : LengthForm) (start stop : Bool) (payload : List ℕ) : Type 0 where
  pub size : HasLength e.default_length form (length payload)
  pub marks : AreMarks (has_marks e (length payload)) start stop
  pub bytes : AllByRecursion (λ b. b < 256) payload

-- An absent part fits every configuration.
abbrev pub IsPart : ExtConfig → ExtPart → Type 0
IsPart e Absent = Unit {0}
IsPart e (Present form start stop payload) = IsPresent e form start stop payload

-- a part of an element that is configured so
abbrev pub part : ExtConfig → Layout ExtPart FrameFault
part e = fitted (IsPart e) fields_of part_of (part_fields e)

abbrev pub part_text : ExtConfig → ExtPart → List Bool
part_text e = let L = part e in L.spelling
