-- Fields: one number or one flag, whose spellings all have one length.
use Rattle.std.specs.Prelude.{◌≡◌, ℕ, ◌<◌, ◌^◌, ◌⊎◌, Bool, List, [], ◌∷◌, ◌++◌, length, take, Option, Some, None, Result, Ok, Err, nat_lt, if◌then◌else◌}
use Rattle.layout.specs.Text.{num, value_after}
use Rattle.layout.specs.Reader.{Reader, left, moved}
use Rattle.layout.specs.Layout.{Layout, IsProperPrefix}

-- The values that a field can have, their spellings, and the value at the front of a text with its length.
pub record Field (A : Type 0) : Type 1 where
  pub Can : A → Type 0
  pub spelling : A → List Bool
  pub parse : List Bool → Option (A × ℕ)

-- the text ends within the field: it is a proper prefix of a spelling, of whatever value
abbrev pub EndsWithin : {A : Type 0} → Field A → List Bool → Type 0
EndsWithin {A} G t = (v : A) × G.Can v × IsProperPrefix t (G.spelling v)

-- the text begins with a value that is refused, for this reason
abbrev pub IsRefused : {A F : Type 0} → Field A → (A → Option (ℕ → F)) → (ℕ → F) → List Bool → Type 0
IsRefused {A} G refusal reason t = (v : A) × (u : List Bool) × G.Can v × (refusal v ≡ Some reason) × (t ≡ G.spelling v ++ u)

abbrev pub judged : {A F : Type 0} → Reader → A → ℕ → Option (ℕ → F) → Result (A × Reader) F
judged r v n None = Ok (v, moved r n)
judged r v n (Some reason) = Err (reason r.at)

abbrev pub parsed : {A F : Type 0} → (ℕ → F) → (A → Option (ℕ → F)) → Reader → Option (A × ℕ) → Result (A × Reader) F
parsed short refusal r None = Err (short r.at)
parsed short refusal r (Some x) = judged r x.0 x.1 (refusal x.0)

-- A field is short, or its value is refused; either fault stands at its first bit.
abbrev pub field : {A F : Type 0} → (ℕ → F) → (A → Option (ℕ → F)) → Field A → Layout A F
field {A} {F} short refusal G = record {
  Fits = λ v. G.Can v × (refusal v ≡ None);
  spelling = G.spelling;
  Faults = λ at f t. ((f ≡ short at) × EndsWithin G t) ⊎ ((reason : ℕ → F) × IsRefused G refusal reason t × (f ≡ reason at));
  read = λ r. parsed short refusal r (G.parse (left r));
}

abbrev pub none_refused : {A F : Type 0} → A → Option (ℕ → F)
none_refused _ = None

abbrev pub number_parse : ℕ → List Bool → Option (ℕ × ℕ)
number_parse n t = if nat_lt (length t) n then None else Some (value_after 0 (take n t), n)

-- a number of n bits
abbrev pub number_field : ℕ → Field ℕ
number_field n = record { Can = λ v. v < 2 ^ n; spelling = num n; parse = number_parse n }

abbrev pub flag_parse : List Bool → Option (Bool × ℕ)
flag_parse [] = None
flag_parse (b ∷ t) = Some (b, 1)

-- one bit, as a truth value
abbrev pub flag_field : Field Bool
flag_field = record { Can = λ _. Unit {0}; spelling = λ b. b ∷ []; parse = flag_parse }

abbrev pub run_parse : ℕ → List Bool → Option (List Bool × ℕ)
run_parse n t = if nat_lt (length t) n then None else Some (take n t, n)

-- n bits as they are
abbrev pub run_field : ℕ → Field (List Bool)
run_field n = record { Can = λ v. length v ≡ n; spelling = λ v. v; parse = run_parse n }
