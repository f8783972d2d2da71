-- Lengths as bytes that are summed until one of them is not 255 (ISO/IEC 14496-3, MuxSlotLengthBytes).
use Rattle.std.specs.Prelude.{◌≡◌, ℕ, zero, suc, ◌+◌, ◌/◌, ◌%◌, Bool, List, [], ◌∷◌, ◌++◌, length, replicate, Result, Ok, Err, ◌==◌, if◌then◌else◌}
use Rattle.std.specs.List.{flat_map}
use Rattle.bit_core.specs.declared.faults.Short.{Short}
use Rattle.layout.specs.Text.{num}
use Rattle.layout.specs.Reader.{Reader, left}
use Rattle.layout.specs.Layout.{◌>>=◌, Layout, at_start, IsProperPrefix}
use Rattle.bit_core.specs.Plain.{bits, short_at}

-- so many bytes of 255, and one with what is left
unfoldable pub slot_text : ℕ → List Bool
slot_text n = flat_map (num 8) (replicate (n / 255) 255 ++ (n % 255) ∷ [])

abbrev pub slot_more : ℕ × Reader → Result (ℕ × Reader) Short
slot_more y = Ok (255 + y.0, y.1)

abbrev pub slot_step : (Reader → Result (ℕ × Reader) Short) → ℕ × Reader → Result (ℕ × Reader) Short
slot_step rest x = if x.0 == 255 then rest x.1 >>= slot_more else Ok x

-- at most so many bytes
abbrev pub slot_read : ℕ → Reader → Result (ℕ × Reader) Short
slot_read zero r = Err (short_at r.at)
slot_read (suc k) r = (bits 8).read r >>= slot_step (slot_read k)

abbrev pub slot : Layout ℕ Short
slot = record {
  Fits = λ n. Unit {0};
  spelling = slot_text;
  Faults = λ at f t. (f ≡ short_at at) × ((n : ℕ) × IsProperPrefix t (slot_text n));
  read = λ r. at_start (short_at r.at) (slot_read (suc (length (left r))) r);
}
