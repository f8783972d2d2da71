-- Layouts that take all bits up to the end of the text.
use Rattle.std.specs.Prelude.{◌≡◌, ℕ, ◌+◌, ◌<◌, ◌≤◌, ◌⊎◌, Bool, List, length, take, Result, Ok, Err, nat_lt, if◌then◌else◌}
use Rattle.layout.specs.Reader.{Reader, left, moved}
use Rattle.layout.specs.Layout.{Layout}

-- all bits to the end; it has no fault
abbrev pub rest : {F : Type 0} → Layout (List Bool) F
rest = record {
  Fits = λ v. Unit {0};
  spelling = λ v. v;
  Faults = λ at f t. ⊥;
  read = λ r. Ok (left r, moved r (length (left r)));
}

abbrev pub tail_read : {F : Type 0} → (ℕ → F) → ℕ → Reader → Result (List Bool × Reader) F
tail_read too_long n r = if nat_lt n (length (left r)) then Err (too_long r.at) else Ok (left r, moved r (length (left r)))

-- all bits to the end, of which there are at most n
abbrev pub tail : {F : Type 0} → (ℕ → F) → ℕ → Layout (List Bool) F
tail too_long n = record {
  Fits = λ v. length v ≤ n;
  spelling = λ v. v;
  Faults = λ at f t. (f ≡ too_long at) × (n < length t);
  read = tail_read too_long n;
}

-- the next n bits, as a text of their own
abbrev pub window : Reader → ℕ → Reader
window r n = record { text = take (r.at + n) r.text; at = r.at }

abbrev pub back_out : {A F : Type 0} → Reader → ℕ → Result (A × Reader) F → Result (A × Reader) F
back_out r n (Ok x) = Ok (x.0, moved r n)
back_out r n (Err f) = Err f

abbrev pub inside_read : {A F : Type 0} → (ℕ → F) → ℕ → Layout A F → Reader → Result (A × Reader) F
inside_read short n H r = if nat_lt (length (left r)) n then Err (short r.at) else back_out r n (H.read (window r n))

-- n bits that are judged by themselves
abbrev pub inside : {A F : Type 0} → (ℕ → F) → ℕ → Layout A F → Layout A F
inside short n H = record {
  Fits = λ v. H.Fits v × (length (H.spelling v) ≡ n);
  spelling = H.spelling;
  Faults = λ at f t. ((length t < n) × (f ≡ short at)) ⊎ ((n ≤ length t) × H.Faults at f (take n t));
  read = inside_read short n H;
}
