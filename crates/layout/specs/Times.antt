-- Values of one layout, one after another.
use Rattle.std.specs.Prelude.{◌≡◌, ℕ, zero, suc, ◌+◌, ◌⊎◌, Bool, List, [], ◌∷◌, ◌++◌, length, Result, Ok}
use Rattle.std.specs.List.{flat_map, AllByRecursion}
use Rattle.layout.specs.Reader.{Reader}
use Rattle.layout.specs.Layout.{◌>>=◌, Layout}

abbrev pub times_read : {A F : Type 0} → Layout A F → ℕ → Reader → Result (List A × Reader) F
times_read H zero r = Ok ([], r)
times_read H (suc n) r = H.read r >>= λ x. times_read H n x.1 >>= λ y. Ok (x.0 ∷ y.0, y.1)

-- the first fault: in the first value, or behind it in the others
abbrev pub TimesFaults : {A F : Type 0} → Layout A F → ℕ → ℕ → F → List Bool → Type 0
TimesFaults H zero at f t = ⊥
TimesFaults {A} H (suc n) at f t = (H.Faults at f t) ⊎ ((v : A) × (u : List Bool) × H.Fits v × (t ≡ H.spelling v ++ u) × TimesFaults H n (at + length (H.spelling v)) f u)

-- n values
abbrev pub times : {A F : Type 0} → ℕ → Layout A F → Layout (List A) F
times n H = record {
  Fits = λ vs. (length vs ≡ n) × AllByRecursion H.Fits vs;
  spelling = flat_map H.spelling;
  Faults = TimesFaults H n;
  read = times_read H n;
}
