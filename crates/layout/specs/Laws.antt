-- What is true of every layout that is read exactly.
use Rattle.std.specs.Prelude.{◌≡◌, ◌⊎◌, Bool, List, ◌++◌, Option, Some, None, Result, Ok, Err, OnErr}
use Rattle.std.proofs.Common.{inl, inr}
use Rattle.layout.specs.Reader.{Reader}
use Rattle.layout.specs.Layout.{Layout}
use Rattle.layout.specs.Reading.{Gives, GivesUnless, Reads, ReadsUnless}

-- No spelling of one value is a prefix of another's: two texts that agree begin with the same value, and go on the same.
abbrev pub HasOneSpelling : {A F : Type 0} → Layout A F → Type 0
HasOneSpelling {A} L = (v w : A) (x y : List Bool) → L.Fits v → L.Fits w → L.spelling v ++ x ≡ L.spelling w ++ y → (v ≡ w) × (x ≡ y)

-- A text has at most one fault.
abbrev pub HasOneFault : {A F : Type 0} → Layout A F → Type 0
HasOneFault {A} {F} L = (f g : F) (t : List Bool) → L.Faults 0 f t → L.Faults 0 g t → f ≡ g

-- the text begins with the spelling of a value in which nothing is refused
abbrev pub Begins : {A F : Type 0} → Layout A F → List Bool → Type 0
Begins {A} L t = (v : A) × (u : List Bool) × L.Fits v × (t ≡ L.spelling v ++ u)

-- A text has a fault exactly where it does not begin with a spelling.
pub record IsDecided {A F : Type 0} (L : Layout A F) : Type 0 where
  pub one_of : (t : List Bool) → Begins L t ⊎ ((f : F) × L.Faults 0 f t)
  pub not_both : (f : F) (t : List Bool) → Begins L t → L.Faults 0 f t → ⊥

-- Of a layout that takes all of a text: two values with one spelling are the same.
abbrev pub SpellsOnce : {A F : Type 0} → Layout A F → Type 0
SpellsOnce {A} L = (v w : A) → L.Fits v → L.Fits w → L.spelling v ≡ L.spelling w → v ≡ w

-- the text is the spelling of a value in which nothing is refused
abbrev pub IsSpelling : {A F : Type 0} → Layout A F → List Bool → Type 0
IsSpelling {A} L t = (v : A) × L.Fits v × (t ≡ L.spelling v)

-- A text is such a spelling or has a fault, and not both; and it has one fault at most.
pub record IsDecidedWhole {A F : Type 0} (L : Layout A F) : Type 0 where
  pub one_of : (t : List Bool) → IsSpelling L t ⊎ ((f : F) × L.Faults 0 f t)
  pub not_both : (t : List Bool) (f : F) → IsSpelling L t → L.Faults 0 f t → ⊥
  pub one_fault : (t : List Bool) (f g : F) → L.Faults 0 f t → L.Faults 0 g t → f ≡ g

abbrev pub value_in : {A F : Type 0} (L : Layout A F) (t : List Bool) → IsSpelling L t ⊎ ((f : F) × L.Faults 0 f t) → Option A
value_in L t (inl spelled) = Some spelled.0
value_in L t (inr bad) = None

abbrev pub fault_in : {A F : Type 0} (L : Layout A F) (t : List Bool) → IsSpelling L t ⊎ ((f : F) × L.Faults 0 f t) → Option F
fault_in L t (inl spelled) = None
fault_in L t (inr bad) = Some bad.0

-- The value whose spelling a text is, if there is one; else the fault of the text. It is decided which of the two there is.
abbrev pub value_of : {A F : Type 0} (L : Layout A F) → IsDecidedWhole L → List Bool → Option A
value_of L d t = value_in L t (d.one_of t)

abbrev pub fault_of : {A F : Type 0} (L : Layout A F) → IsDecidedWhole L → List Bool → Option F
fault_of L d t = fault_in L t (d.one_of t)

-- It is that value exactly where the text is its spelling.
pub record IsValueOf {A F : Type 0} (L : Layout A F) (d : IsDecidedWhole L) : Type 0 where
  pub is : (t : List Bool) (v : A) → value_of L d t ≡ Some v → L.Fits v × (t ≡ L.spelling v)
  pub found : (t : List Bool) (v : A) → L.Fits v → t ≡ L.spelling v → value_of L d t ≡ Some v
  pub none : (t : List Bool) (f : F) → L.Faults 0 f t → value_of L d t ≡ None

-- It is that fault exactly where the text has it.
pub record IsFaultOf {A F : Type 0} (L : Layout A F) (d : IsDecidedWhole L) : Type 0 where
  pub is : (t : List Bool) (f : F) → fault_of L d t ≡ Some f → L.Faults 0 f t
  pub found : (t : List Bool) (f : F) → L.Faults 0 f t → fault_of L d t ≡ Some f

-- What a call gives by the reading function, going back where it failed, is what a reader promises.
abbrev pub IsRead : {A F : Type 0} → Layout A F → Type 0
IsRead {A} {F} L = (old new : Reader) (result : Result A F) → Gives L old new result → OnErr result (new ≡ old) → Reads L old new result

abbrev pub IsReadUnless : {A F : Type 0} → Layout A F → Type 0
IsReadUnless {A} {F} L = (free : F → Bool) (old new : Reader) (result : Result A F) → GivesUnless free L old new result → OnErr result (new ≡ old) → ReadsUnless free L old new result
