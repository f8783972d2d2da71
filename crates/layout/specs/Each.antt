-- One value for each entry of a list, each in the layout that its entry says.
use Rattle.std.specs.Prelude.{◌≡◌, ℕ, ◌+◌, ◌⊎◌, Bool, List, [], ◌∷◌, ◌++◌, length, Result, Ok}
use Rattle.layout.specs.Reader.{Reader}
use Rattle.layout.specs.Layout.{◌>>=◌, Layout}

-- as many values as entries, and of each pair it holds
abbrev pub FitEach : {X A : Type 0} → (X → A → Type 0) → List X → List A → Type 0
FitEach P [] [] = Unit {0}
FitEach P [] (v ∷ vs) = ⊥
FitEach P (x ∷ xs) [] = ⊥
FitEach P (x ∷ xs) (v ∷ vs) = P x v × FitEach P xs vs

abbrev pub each_text : {X A : Type 0} → (X → A → List Bool) → List X → List A → List Bool
each_text text [] vs = []
each_text text (x ∷ xs) [] = []
each_text text (x ∷ xs) (v ∷ vs) = text x v ++ each_text text xs vs

abbrev pub each_read : {X A F : Type 0} → (X → Layout A F) → List X → Reader → Result (List A × Reader) F
each_read H [] r = Ok ([], r)
each_read H (x ∷ xs) r = (H x).read r >>= λ v. each_read H xs v.1 >>= λ vs. Ok (v.0 ∷ vs.0, vs.1)

-- the first fault: in the first value, or behind it in the others
abbrev pub EachFaults : {X A F : Type 0} → (X → Layout A F) → List X → ℕ → F → List Bool → Type 0
EachFaults H [] at f t = ⊥
EachFaults {X} {A} H (x ∷ xs) at f t =
    ((H x).Faults at f t) ⊎ ((v : A) × (u : List Bool) × (H x).Fits v × (t ≡ (H x).spelling v ++ u) × EachFaults H xs (at + length ((H x).spelling v)) f u)

-- one value for each entry, one after another
abbrev pub each : {X A F : Type 0} → (X → Layout A F) → List X → Layout (List A) F
each H xs = record {
  Fits = FitEach (λ x. (H x).Fits) xs;
  spelling = each_text (λ x. (H x).spelling) xs;
  Faults = EachFaults H xs;
  read = each_read H xs;
}
