-- Where the slots of an element stand among its bits, and which bytes they are.
use Rattle.std.specs.Prelude.{◌≡◌, ℕ, zero, suc, ◌+◌, ◌*◌, ◌≤◌, Bool, false, List, [], ◌∷◌, length, take, drop, map, Option, Result, Ok, Err}
use Rattle.std.specs.List.{AllByRecursion}
use Rattle.layout.specs.Text.{value_after, bits_of}
use Rattle.layout.specs.Reader.{Reader, left, moved}
use Rattle.layout.specs.Reading.{IsOnwards}
use Rattle.latm.specs.declared.fault.MuxFault.{MuxFault}
use Rattle.latm.specs.declared.mux_config.MuxConfig.{MuxConfig}
use Rattle.latm.specs.declared.mux_element.MuxElement.{MuxElement}
use Rattle.latm.specs.declared.places.Places.{Places}
use Rattle.latm.specs.declared.slot_place.SlotPlace.{SlotPlace}
use Rattle.latm.specs.Faults.{is_memory}
use Rattle.latm.specs.MuxElement.{body, element}

-- the first n bytes that bits spell
unfoldable pub bytes_in : ℕ → List Bool → List ℕ
bytes_in zero bits = []
bytes_in (suc n) bits = value_after 0 (take 8 bits) ∷ bytes_in n (drop 8 bits)

-- the slot at a place of these bits
abbrev pub slot_at : List Bool → SlotPlace → List ℕ
slot_at bits p = bytes_in p.length (drop p.from bits)

abbrev pub slots_at : List Bool → List SlotPlace → List (List ℕ)
slots_at bits places = map (slot_at bits) places

-- The place is within so many bits.
abbrev pub IsWithin : ℕ → SlotPlace → Type 0
IsWithin bits p = p.from + 8 * p.length ≤ bits

abbrev pub AreWithin : ℕ → List SlotPlace → Type 0
AreWithin bits places = AllByRecursion (IsWithin bits) places

-- The bytes are an element under the configuration that is in force before it; this is its own configuration, and there its
-- slots stand.
pub record HasPlaces (before : Option MuxConfig) (bytes : List ℕ) (p : Places) : Type 0 where
  pub whole : MuxElement
  pub fits : (let L = element before in L.Fits whole)
  pub spelled : bits_of bytes ≡ (let L = element before in L.spelling whole)
  pub config : p.config ≡ whole.config
  pub slots : slots_at (bits_of bytes) p.slots ≡ whole.slots
  pub within : AreWithin (8 * length bytes) p.slots

-- These are the places, or the fault is the first one, or memory fails.
abbrev pub ReadsPlaces : Option MuxConfig → List ℕ → Result Places MuxFault → Type 0
ReadsPlaces before bytes (Ok p) = HasPlaces before bytes p
ReadsPlaces before bytes (Err f) = is_memory f ≡ false → (let L = element before in L.Faults 0 f (bits_of bytes))

-- ---- for the proofs: what a call found, as what stands there

abbrev pub as_slot : List Bool → Result SlotPlace MuxFault → Result (List ℕ) MuxFault
as_slot bits (Ok p) = Ok (slot_at bits p)
as_slot bits (Err f) = Err f

abbrev pub as_slots : List Bool → Result (List SlotPlace) MuxFault → Result (List (List ℕ)) MuxFault
as_slots bits (Ok places) = Ok (slots_at bits places)
as_slots bits (Err f) = Err f

-- what was passed without a look
abbrev pub passed_bytes : {F : Type 0} → ℕ → Reader → Result (Unit {0}) F → Result (List ℕ) F
passed_bytes n old (Ok _) = Ok (bytes_in n (left old))
passed_bytes n old (Err f) = Err f

abbrev pub passed_bits : {F : Type 0} → ℕ → Reader → Result (Unit {0}) F → Result (List Bool) F
passed_bits n old (Ok _) = Ok (take n (left old))
passed_bits n old (Err f) = Err f

-- What stands behind a configuration is read so, where these places were found; what they leave out is there too.
abbrev pub FindsBody : Option MuxConfig → Reader → Reader → Result (List SlotPlace) MuxFault → Type 0
FindsBody m old new (Ok places) =
    (other : List Bool) × (let L = body m in L.read old ≡ Ok ((slots_at old.text places, (other, left new)), moved new (length (left new)))) × IsOnwards old new × AreWithin (length old.text) places
FindsBody m old new (Err f) = (is_memory f ≡ false → let L = body m in L.read old ≡ Err f) × IsOnwards old new

abbrev pub FindsElement : Option MuxConfig → Reader → Reader → Result Places MuxFault → Type 0
FindsElement before old new (Ok p) =
    (other : List Bool) × (let L = element before in L.read old ≡ Ok (record { config = p.config; slots = slots_at old.text p.slots; other = other; tail = left new }, moved new (length (left new)))) × IsOnwards old new
    × AreWithin (length old.text) p.slots
FindsElement before old new (Err f) = (is_memory f ≡ false → let L = element before in L.read old ≡ Err f) × IsOnwards old new
