-- Fields of plain bits, numbers and bytes, whose one fault is that bits are missing; and the same fields of a format, whose fault is one of the
-- format's own.
use Rattle.std.specs.Prelude.{ℕ, Bool, List}
use Rattle.layout.specs.Layout.{Layout, whole, wrapped}
use Rattle.layout.specs.Fields.{field, number_field, flag_field, run_field, none_refused}
use Rattle.layout.specs.Times.{times}
use Rattle.bit_core.specs.declared.faults.ReadFault.{ReadFault}
use Rattle.bit_core.specs.declared.faults.ReadFault.TheVariants as reads
use Rattle.bit_core.specs.declared.faults.Short.{Short}

abbrev pub short_at : ℕ → Short
short_at at = record { at = at }

-- a number of n bits
abbrev pub bits : ℕ → Layout ℕ Short
bits n = field short_at none_refused (number_field n)

-- one bit
abbrev pub bit : Layout Bool Short
bit = field short_at none_refused flag_field

-- n bytes, which are one field
abbrev pub octets : ℕ → Layout (List ℕ) Short
octets n = whole short_at (times n (bits 8))

-- n bits as they are, which are one field
abbrev pub bit_run : ℕ → Layout (List Bool) Short
bit_run n = field short_at none_refused (run_field n)

-- a number of n bits, one bit, and n bytes, of a format with faults of its own
abbrev pub number : {F : Type 0} → (Short → F) → ℕ → Layout ℕ F
number wrap n = wrapped wrap (bits n)

abbrev pub flag : {F : Type 0} → (Short → F) → Layout Bool F
flag wrap = wrapped wrap bit

abbrev pub run_of_bytes : {F : Type 0} → (ReadFault → F) → ℕ → Layout (List ℕ) F
run_of_bytes wrap n = wrapped wrap (wrapped reads.Short (octets n))
