-- AudioMuxElement(1), field by field (ISO/IEC 14496-3).
use Rattle.std.specs.Prelude.{ℕ, ◌+◌, Bool, not, ◌||◌, List, length, Option, Some, None, is_some, if◌then◌else◌}
use Rattle.layout.specs.Layout.{Layout, both, shaped, wrapped, checked, where_set}
use Rattle.layout.specs.Laws.{SpellsOnce, IsDecidedWhole}
use Rattle.layout.specs.Times.{times}
use Rattle.layout.specs.ToEnd.{rest}
use Rattle.bit_core.specs.declared.faults.ReadFault.TheVariants as reads
use Rattle.bit_core.specs.Plain.{flag, octets, bit_run}
use Rattle.esc_value.specs.SlotLength.{slot}
use Rattle.latm.specs.declared.fault.MuxFault.{MuxFault}
use Rattle.latm.specs.declared.fault.MuxFault.TheVariants as faults
use Rattle.latm.specs.declared.mux_config.MuxConfig.{MuxConfig}
use Rattle.latm.specs.declared.mux_element.MuxElement.{MuxElement}
use Rattle.latm.specs.declared.other_length.OtherLength.{OtherLength}
use Rattle.latm.specs.declared.other_length.OtherLength.TheVariants.{Pairs, Value}
use Rattle.latm.specs.Faults.{from_short, from_read}
use Rattle.latm.specs.MuxConfig.{mux_config}

-- the configuration that is in force behind an element's own, where it has one
abbrev pub then_in_force : Option MuxConfig → Option MuxConfig → Option MuxConfig
then_in_force before None = before
then_in_force before (Some own) = Some own

-- one slot more than numSubFrames
abbrev pub slot_count : Option MuxConfig → ℕ
slot_count None = 0
slot_count (Some m) = m.sub_frames + 1

abbrev pub bits_of_length : Option OtherLength → ℕ
bits_of_length None = 0
bits_of_length (Some (Pairs count bits)) = bits
bits_of_length (Some (Value v)) = v.value

-- the number of bits of other data
abbrev pub other_bits : Option MuxConfig → ℕ
other_bits None = 0
other_bits (Some m) = bits_of_length m.other

abbrev pub no_config : ℕ → MuxFault
no_config at = faults.NoConfig

-- useSameStreamMux is 1 only where a configuration is in force
abbrev pub same_refused : Bool → Bool → Option (ℕ → MuxFault)
same_refused in_force same = if in_force || not same then None else Some no_config

abbrev pub same : Bool → Layout Bool MuxFault
same in_force = checked (same_refused in_force) (flag from_short)

-- useSameStreamMux, and StreamMuxConfig where it is 0
abbrev pub opening : Bool → Layout (Option MuxConfig) MuxFault
opening in_force = shaped (λ o. (not (is_some o), o)) (λ x. x.1) (both (same in_force) (λ same. where_set (not same) mux_config))

-- MuxSlotLengthBytes, and so many bytes
abbrev pub slot_of_bytes : Layout (List ℕ) MuxFault
slot_of_bytes = shaped (λ au. (length au, au)) (λ x. x.1)
    (both (wrapped from_short slot) (λ n. wrapped from_read (wrapped reads.Short (octets n))))

abbrev pub other_data : ℕ → Layout (List Bool) MuxFault
other_data n = wrapped from_read (wrapped reads.Short (bit_run n))

-- What stands behind an element's configuration: the slots and the other data that the configuration in force says, and all
-- bits to the end.
abbrev pub body : Option MuxConfig → Layout (List (List ℕ) × (List Bool × List Bool)) MuxFault
body m = both (times (slot_count m) slot_of_bytes) (λ _. both (other_data (other_bits m)) (λ _. rest))

-- An element under the configuration that is in force before it. It takes all of a text.
abbrev pub element : Option MuxConfig → Layout MuxElement MuxFault
element before = shaped
    (λ e. (e.config, (e.slots, (e.other, e.tail))))
    (λ (config, (slots, (other, tail))). record { config = config; slots = slots; other = other; tail = tail })
    (both (opening (is_some before)) (λ own. body (then_in_force before own)))

-- an element with other slots
abbrev pub with_slots : List (List ℕ) → MuxElement → MuxElement
with_slots slots e = record { config = e.config; slots = slots; other = e.other; tail = e.tail }

-- Whatever is in force, two elements with one spelling are the same.
abbrev pub IsSpelledOnce : Type 0
IsSpelledOnce = (before : Option MuxConfig) → SpellsOnce (element before)

-- Whatever is in force, a text is an element or has a fault, and not both; and it has one fault at most.
abbrev pub IsDecided : Type 0
IsDecided = (before : Option MuxConfig) → IsDecidedWhole (element before)
