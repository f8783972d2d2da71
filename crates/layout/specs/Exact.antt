-- What holds of fields and layouts that are read exactly.
use Rattle.std.specs.Prelude.{◌≡◌, ℕ, Bool, List, ◌++◌, length, Some, None, Ok, Err}
use Rattle.layout.specs.Reader.{Reader, left, moved}
use Rattle.layout.specs.Layout.{Layout, StopsWithin}
use Rattle.layout.specs.Fields.{Field, EndsWithin}

-- A field's values are found at the front of a text exactly where they are.
pub record IsField {A : Type 0} (G : Field A) : Type 0 where
  pub starts : (t : List Bool) (v : A) (n : ℕ) → G.parse t ≡ Some (v, n) → G.Can v × (length (G.spelling v) ≡ n) × ((u : List Bool) × (t ≡ G.spelling v ++ u))
  pub again : (v : A) (u : List Bool) → G.Can v → G.parse (G.spelling v ++ u) ≡ Some (v, length (G.spelling v))
  pub ends : (t : List Bool) → G.parse t ≡ None → EndsWithin G t
  pub short : (t : List Bool) → EndsWithin G t → G.parse t ≡ None

-- A layout is read exactly: what is read is spelled so, what is spelled so is read, and the fault is the first one.
pub record IsExact {A F : Type 0} (L : Layout A F) : Type 0 where
  pub takes : (r s : Reader) (v : A) → L.read r ≡ Ok (v, s) → L.Fits v × (left r ≡ L.spelling v ++ left s) × (s ≡ moved r (length (L.spelling v)))
  pub again : (r : Reader) (v : A) (u : List Bool) → L.Fits v → left r ≡ L.spelling v ++ u → L.read r ≡ Ok (v, moved r (length (L.spelling v)))
  pub blames : (r : Reader) (f : F) → L.read r ≡ Err f → L.Faults r.at f (left r)
  pub only : (r : Reader) (f : F) → L.Faults r.at f (left r) → L.read r ≡ Err f

-- Each fault of the layout is that the text ends too soon: the text is a proper prefix of a spelling.
pub record IsOpen {A F : Type 0} (L : Layout A F) : Type 0 where
  pub some : (v : A) × L.Fits v
  pub stops : (at : ℕ) (f : F) (t : List Bool) → L.Faults at f t → StopsWithin L t

-- A layout that takes all of the text is read exactly.
pub record IsExactToEnd {A F : Type 0} (L : Layout A F) : Type 0 where
  pub takes : (r s : Reader) (v : A) → L.read r ≡ Ok (v, s) → L.Fits v × (left r ≡ L.spelling v) × (s ≡ moved r (length (L.spelling v)))
  pub again : (r : Reader) (v : A) → L.Fits v → left r ≡ L.spelling v → L.read r ≡ Ok (v, moved r (length (L.spelling v)))
  pub blames : (r : Reader) (f : F) → L.read r ≡ Err f → L.Faults r.at f (left r)
  pub only : (r : Reader) (f : F) → L.Faults r.at f (left r) → L.read r ≡ Err f
