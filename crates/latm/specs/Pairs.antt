-- The length of other data as pairs of otherDataLenEsc and otherDataLenTmp (ISO/IEC 14496-3, StreamMuxConfig of version 0).
use Rattle.std.specs.Prelude.{◌≡◌, ℕ, zero, suc, ◌+◌, ◌-◌, ◌*◌, ◌/◌, ◌%◌, ◌^◌, ◌<◌, ◌≤◌, Bool, true, List, [], ◌∷◌, ◌++◌, length, Result, Ok, Err, nat_lt, not, ◌||◌, if◌then◌else◌}
use Rattle.bit_core.specs.declared.faults.Short.{Short}
use Rattle.layout.specs.Text.{num}
use Rattle.layout.specs.Reader.{Reader, left}
use Rattle.layout.specs.Layout.{◌>>=◌, Layout, both, at_start, IsProperPrefix}
use Rattle.bit_core.specs.Plain.{bits, bit, short_at}
use Rattle.latm.specs.declared.pairs.Run.{Run}

-- otherDataLenEsc and otherDataLenTmp
abbrev pub pair : Layout (Bool × ℕ) Short
pair = both bit (λ _. bits 8)

-- n pairs whose bytes spell a number, the most significant first; behind each of them stands another one
unfoldable pub more_text : ℕ → ℕ → List Bool
more_text zero v = []
more_text (suc n) v = more_text n (v / 256) ++ true ∷ num 8 (v % 256)

-- the largest length of other data, in bits
abbrev pub largest : ℕ
largest = 65535

-- The pairs of a run: their count, the number that their bytes spell, and otherDataLenEsc of the last one.
abbrev pub run_text : Run → List Bool
run_text w = more_text (w.count - 1) (w.bits / 256) ++ w.more ∷ num 8 (w.bits % 256)

-- A run ends at the first pair behind which none stands, or at which the number exceeds the largest.
pub record IsRun (w : Run) : Type 0 where
  pub some : 1 ≤ w.count
  pub held : w.bits < 256 ^ w.count
  pub before : w.bits / 256 ≤ 65535
  pub last : w.more ≡ true → 65535 < w.bits

-- whether a run ends at a pair
abbrev pub is_last : Bool → ℕ → Bool
is_last more number = nat_lt largest number || not more

abbrev pub run_step : (ℕ → ℕ → Reader → Result (Run × Reader) Short) → ℕ → ℕ → (Bool × ℕ) × Reader → Result (Run × Reader) Short
run_step others count number ((more, byte), r) =
    if is_last more (number * 256 + byte) then Ok (record { count = count + 1; bits = number * 256 + byte; more = more }, r) else others (count + 1) (number * 256 + byte) r

-- at most so many pairs more
abbrev pub run_read : ℕ → ℕ → ℕ → Reader → Result (Run × Reader) Short
run_read zero count number r = Err (short_at r.at)
run_read (suc k) count number r = pair.read r >>= run_step (run_read k) count number

-- A run, which is one field: its one fault is that the text ends within it.
abbrev pub run : Layout Run Short
run = record {
  Fits = IsRun;
  spelling = run_text;
  Faults = λ at f t. (f ≡ short_at at) × ((w : Run) × IsRun w × IsProperPrefix t (run_text w));
  read = λ r. at_start (short_at r.at) (run_read (suc (length (left r))) 0 0 r);
}
