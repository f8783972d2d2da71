-- What a `begin` makes of a shelf in memory.
use Rattle.std.specs.Prelude.{◌≡◌, ℕ, List, [], ◌∷◌, ◌++◌, Some, Result, Ok, Err}
use Rattle.outside.specs.declared.fault.DeviceFault.{DeviceFault}
use Rattle.outside.specs.declared.fault.DeviceFault.TheVariants.{Failed, Memory}
use Rattle.outside.specs.Plan.{refused}
use Rattle.outside.specs.Stock.{Stock, bytes_of, at_start}

-- One input more, at the first byte of its name; or one fault more; or nothing.
abbrev pub AfterBegin : Stock → List ℕ → Stock → Result ℕ DeviceFault → Type 0
AfterBegin old name new (Ok id) = (text : List ℕ) → bytes_of old.held name ≡ Some text → new ≡ record old { begun = old.begun ++ at_start text ∷ [] }
AfterBegin old name new (Err Failed) = new ≡ record old { plan = refused old.plan }
AfterBegin old name new (Err (Memory want)) = new ≡ old
