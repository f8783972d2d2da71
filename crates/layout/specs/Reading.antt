-- What a reader's call says of a layout.
use Rattle.std.specs.Prelude.{◌≡◌, ◌≤◌, Bool, true, false, List, ◌++◌, length, Result, Ok, Err, IfOk, IfErr, OnErr, IsErrAnd}
use Rattle.layout.specs.Reader.{Reader, left, moved}
use Rattle.layout.specs.Layout.{Layout}

-- What a public reader promises. Where nothing was read the reader is as it was.
pub record Reads {A F : Type 0} (L : Layout A F) (old new : Reader) (result : Result A F) : Type 0 where
  -- what is read can be had, is spelled so, and is behind the reader
  pub found : IfOk result (λ v. L.Fits v × (left old ≡ L.spelling v ++ left new) × (new ≡ moved old (length (L.spelling v))))
  -- what is spelled so is read
  pub only : (v : A) (u : List Bool) → L.Fits v → left old ≡ L.spelling v ++ u → result ≡ Ok v
  -- a fault is the first one, and the first one is answered
  pub fault : IfErr result (λ f. L.Faults old.at f (left old))
  pub first : (f : F) → L.Faults old.at f (left old) → result ≡ Err f
  pub unchanged : OnErr result (new ≡ old)

-- The same of a call that may also run out of memory, whose faults are the free ones.
pub record ReadsUnless {A F : Type 0} (free : F → Bool) (L : Layout A F) (old new : Reader) (result : Result A F) : Type 0 where
  pub found : IfOk result (λ v. L.Fits v × (left old ≡ L.spelling v ++ left new) × (new ≡ moved old (length (L.spelling v))))
  pub only : (v : A) (u : List Bool) → L.Fits v → left old ≡ L.spelling v ++ u → IfErr result (λ f. free f ≡ true) × IfOk result (λ w. w ≡ v)
  pub fault : IfErr result (λ f. free f ≡ false → L.Faults old.at f (left old))
  pub first : (f : F) → L.Faults old.at f (left old) → IsErrAnd result (λ g. free g ≡ false → g ≡ f)
  pub unchanged : OnErr result (new ≡ old)

-- The same of a reader that takes all that is left: only all of it counts as a spelling.
pub record ReadsAllUnless {A F : Type 0} (free : F → Bool) (L : Layout A F) (old new : Reader) (result : Result A F) : Type 0 where
  pub found : IfOk result (λ v. L.Fits v × (left old ≡ L.spelling v) × (new ≡ moved old (length (L.spelling v))))
  pub only : (v : A) → L.Fits v → left old ≡ L.spelling v → IfErr result (λ f. free f ≡ true) × IfOk result (λ w. w ≡ v)
  pub fault : IfErr result (λ f. free f ≡ false → L.Faults old.at f (left old))
  pub first : (f : F) → L.Faults old.at f (left old) → IsErrAnd result (λ g. free g ≡ false → g ≡ f)
  pub unchanged : OnErr result (new ≡ old)

-- What a reader of a whole text promises. Only all of the text counts as a spelling.
pub record ReadsText {A F : Type 0} (free : F → Bool) (L : Layout A F) (text : List Bool) (result : Result A F) : Type 0 where
  -- what is read can be had, and the text is its spelling
  pub found : IfOk result (λ v. L.Fits v × (text ≡ L.spelling v))
  -- what is spelled so is read, unless memory fails
  pub only : (v : A) → L.Fits v → text ≡ L.spelling v → IfErr result (λ f. free f ≡ true) × IfOk result (λ w. w ≡ v)
  -- a fault is the first one, and the first one is answered
  pub fault : IfErr result (λ f. free f ≡ false → L.Faults 0 f text)
  pub first : (f : F) → L.Faults 0 f text → IsErrAnd result (λ g. free g ≡ false → g ≡ f)

-- the reader is in the same text, and not before where it was
abbrev pub IsOnwards : Reader → Reader → Type 0
IsOnwards old new = (new.text ≡ old.text) × (old.at ≤ new.at)

-- For the proofs of the readers above: what a call answered, and where it left the reader, is what the reading function gives.
abbrev pub Gives : {A F : Type 0} → Layout A F → Reader → Reader → Result A F → Type 0
Gives L old new (Ok v) = (L.read old ≡ Ok (v, new)) × IsOnwards old new
Gives L old new (Err f) = (L.read old ≡ Err f) × IsOnwards old new

-- the same for a call that may also run out of memory, whose faults are the free ones
abbrev pub GivesUnless : {A F : Type 0} → (F → Bool) → Layout A F → Reader → Reader → Result A F → Type 0
GivesUnless free L old new (Ok v) = (L.read old ≡ Ok (v, new)) × IsOnwards old new
GivesUnless free L old new (Err f) = (free f ≡ false → L.read old ≡ Err f) × IsOnwards old new
