-- Layouts of bits: the values that can be had, how each is spelled, and the first fault of a text.
use Rattle.std.specs.Prelude.{◌≡◌, ◌==◌, if◌then◌else◌, ℕ, ◌+◌, ◌⊎◌, Bool, true, false, List, [], ◌∷◌, ◌++◌, length, Option, Some, None, is_some, Result, Ok, Err}
use Rattle.layout.specs.Reader.{Reader}

infixl 10 ◌>>=◌
abbrev pub ◌>>=◌ : {A B F : Type 0} → Result A F → (A → Result B F) → Result B F
(Ok x) >>= f = f x
(Err e) >>= f = Err e

-- t is a prefix of s, and not all of it
abbrev pub IsProperPrefix : List Bool → List Bool → Type 0
IsProperPrefix t s = (b : Bool) × (u : List Bool) × (s ≡ t ++ b ∷ u)

-- Values with their spellings.
pub record Layout (A F : Type 0) : Type 1 where
  -- the value can be had, and nothing in it is refused
  pub Fits : A → Type 0
  pub spelling : A → List Bool
  -- `Faults at f t`: the text t, whose first bit is the bit number `at`, has the fault f
  pub Faults : ℕ → F → List Bool → Type 0
  -- what code is compared with step by step; nothing is promised by it
  pub read : Reader → Result (A × Reader) F

-- A layout, and behind it another one, which may depend on the first value.
-- The first fault is the first part's, or stands behind a first part in which nothing is refused.
abbrev pub both : {A B F : Type 0} → Layout A F → (A → Layout B F) → Layout (A × B) F
both {A} {B} {F} H K = record {
  Fits = λ v. H.Fits v.0 × (K v.0).Fits v.1;
  spelling = λ v. H.spelling v.0 ++ (K v.0).spelling v.1;
  Faults = λ at f t. (H.Faults at f t) ⊎ ((v : A) × (u : List Bool) × H.Fits v × (t ≡ H.spelling v ++ u) × (K v).Faults (at + length (H.spelling v)) f u);
  read = λ r. H.read r >>= λ x. (K x.0).read x.1 >>= λ y. Ok ((x.0, y.0), y.1);
}

-- the same bits, whose values have other shapes
abbrev pub shaped : {A B F : Type 0} → (B → A) → (A → B) → Layout A F → Layout B F
shaped parts made H = record {
  Fits = λ v. H.Fits (parts v);
  spelling = λ v. H.spelling (parts v);
  Faults = H.Faults;
  read = λ r. H.read r >>= λ x. Ok (made x.0, x.1);
}

-- the same bits, whose values have other shapes; which of these fit is said by itself
abbrev pub fitted : {A B F : Type 0} → (B → Type 0) → (B → A) → (A → B) → Layout A F → Layout B F
fitted fits parts made H = record {
  Fits = fits;
  spelling = λ v. H.spelling (parts v);
  Faults = H.Faults;
  read = λ r. H.read r >>= λ x. Ok (made x.0, x.1);
}

-- the same bits and the same values; which of these fit is said by itself
abbrev pub with_fits : {A F : Type 0} → (A → Type 0) → Layout A F → Layout A F
with_fits fits H = record { Fits = fits; spelling = H.spelling; Faults = H.Faults; read = H.read }

abbrev pub error_mapped : {A F G : Type 0} → (F → G) → Result A F → Result A G
error_mapped wrap (Ok x) = Ok x
error_mapped wrap (Err e) = Err (wrap e)

-- the same with its faults seen as others
abbrev pub wrapped : {A F G : Type 0} → (F → G) → Layout A F → Layout A G
wrapped {A} {F} wrap H = record {
  Fits = H.Fits;
  spelling = H.spelling;
  Faults = λ at g t. (f : F) × H.Faults at f t × (g ≡ wrap f);
  read = λ r. error_mapped wrap (H.read r);
}

-- no bits, and the value that is known
abbrev pub known : {A F : Type 0} → A → Layout A F
known a = record {
  Fits = λ v. v ≡ a;
  spelling = λ _. [];
  Faults = λ _ _ _. ⊥;
  read = λ r. Ok (a, r);
}

-- what holds of the value, where there is one
abbrev pub FitsOption : {A : Type 0} → (A → Type 0) → Option A → Type 0
FitsOption P None = Unit {0}
FitsOption P (Some x) = P x

abbrev pub spelling_of : {A : Type 0} → (A → List Bool) → Option A → List Bool
spelling_of s None = []
spelling_of s (Some x) = s x

abbrev pub read_where : {A F : Type 0} → Bool → (Reader → Result (A × Reader) F) → Reader → Result (Option A × Reader) F
read_where true read r = read r >>= λ x. Ok (Some x.0, x.1)
read_where false read r = Ok (None, r)

-- a layout that is there exactly where the test holds
abbrev pub where_set : {A F : Type 0} → Bool → Layout A F → Layout (Option A) F
where_set b H = record {
  Fits = λ o. (is_some o ≡ b) × FitsOption H.Fits o;
  spelling = spelling_of H.spelling;
  Faults = λ at f t. (b ≡ true) × H.Faults at f t;
  read = read_where b H.read;
}

-- a text that ends within a value of the layout
abbrev pub StopsWithin : {A F : Type 0} → Layout A F → List Bool → Type 0
StopsWithin {A} L t = (v : A) × L.Fits v × IsProperPrefix t (L.spelling v)

abbrev pub at_start : {A F G : Type 0} → G → Result A F → Result A G
at_start g (Ok x) = Ok x
at_start g (Err f) = Err g

-- Several numbers that are one field: its one fault is that the text ends within a spelling, and stands at its first bit.
abbrev pub whole : {A F G : Type 0} → (ℕ → G) → Layout A F → Layout A G
whole short H = record {
  Fits = H.Fits;
  spelling = H.spelling;
  Faults = λ at g t. (g ≡ short at) × StopsWithin H t;
  read = λ r. at_start (short r.at) (H.read r);
}

abbrev pub unless_refused : {A F : Type 0} → ℕ → A × Reader → Option (ℕ → F) → Result (A × Reader) F
unless_refused at x None = Ok x
unless_refused at x (Some reason) = Err (reason at)

-- A field of which some values are refused, each for its reason, at the field's first bit.
abbrev pub checked : {A F : Type 0} → (A → Option (ℕ → F)) → Layout A F → Layout A F
checked {A} {F} refusal H = record {
  Fits = λ v. H.Fits v × (refusal v ≡ None);
  spelling = H.spelling;
  Faults = λ at f t. (H.Faults at f t) ⊎ ((v : A) × (u : List Bool) × (reason : ℕ → F) × H.Fits v × (t ≡ H.spelling v ++ u) × (refusal v ≡ Some reason) × (f ≡ reason at));
  read = λ r. H.read r >>= λ x. unless_refused r.at x (refusal x.0);
}

abbrev pub unless_same : {F : Type 0} → ℕ → (ℕ → F) → ℕ → Option (ℕ → F)
unless_same v reason w = if w == v then None else Some reason

-- a number of which all values but one are refused; it says nothing, and so its value is no part of what is read
abbrev pub constant : {F : Type 0} → (ℕ → F) → ℕ → Layout ℕ F → Layout (Unit {0}) F
constant reason v H = shaped (λ _. v) (λ _. tt) (checked (unless_same v reason) H)

-- a layout of no value, behind which another one stands
abbrev pub behind : {A F : Type 0} → Layout (Unit {0}) F → Layout A F → Layout A F
behind H K = shaped (λ v. (tt, v)) (λ x. x.1) (both H (λ _. K))

-- a layout behind which nothing of value stands
abbrev pub before : {A F : Type 0} → Layout A F → Layout (Unit {0}) F → Layout A F
before H K = shaped (λ v. (v, tt)) (λ x. x.0) (both H (λ _. K))
