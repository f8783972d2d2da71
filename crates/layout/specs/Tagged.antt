-- Values of several kinds: a first part that the rest of a value says again, as the kind of an enum's variant.
use Rattle.std.specs.Prelude.{◌≡◌, ◌+◌, ◌⊎◌, Bool, List, [], ◌++◌, length, Option, Some, None, Ok}
use Rattle.layout.specs.Layout.{◌>>=◌, Layout}

-- A tag, and behind it what stands there for this tag. The tag of a value is known from the value.
abbrev pub tagged : {A B F : Type 0} → (B → A) → Layout A F → (A → Layout B F) → Layout B F
tagged {A} {B} {F} tag H K = record {
  Fits = λ v. H.Fits (tag v) × (K (tag v)).Fits v;
  spelling = λ v. H.spelling (tag v) ++ (K (tag v)).spelling v;
  Faults = λ at f t. (H.Faults at f t) ⊎ ((a : A) × (u : List Bool) × H.Fits a × (t ≡ H.spelling a ++ u) × (K a).Faults (at + length (H.spelling a)) f u);
  read = λ r. H.read r >>= λ x. (K x.0).read x.1;
}

-- what holds of the value that is there
abbrev pub FitsIn : {A : Type 0} → (A → Type 0) → Option A → Type 0
FitsIn P None = ⊥
FitsIn P (Some x) = P x

abbrev pub spelling_in : {A : Type 0} → (A → List Bool) → Option A → List Bool
spelling_in s None = []
spelling_in s (Some x) = s x

-- The values of one variant: `make` gives the variant, and `of` what it holds, where a value is of this variant.
abbrev pub as_variant : {A B F : Type 0} → (A → B) → (B → Option A) → Layout A F → Layout B F
as_variant make of H = record {
  Fits = λ v. FitsIn H.Fits (of v);
  spelling = λ v. spelling_in H.spelling (of v);
  Faults = H.Faults;
  read = λ r. H.read r >>= λ x. Ok (make x.0, x.1);
}
