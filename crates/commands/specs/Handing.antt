-- Bytes that are handed to a sink in pieces.
use Rattle.std.specs.Prelude.{◌≡◌, ℕ, ◌<◌, List, ◌++◌, length, take}
use Rattle.std.specs.declared.option.Option.{Option}
use Rattle.std.specs.Io.KnownBytes.{append_known}

-- a front of the bytes was written
abbrev pub WrotePart : Option (List ℕ) → Option (List ℕ) → List ℕ → Type 0
WrotePart before after bytes = (count : ℕ) × (after ≡ append_known before (take count bytes))

-- a front of the bytes was written, and at least the last one was not
abbrev pub WroteLess : Option (List ℕ) → Option (List ℕ) → List ℕ → Type 0
WroteLess before after bytes = (count : ℕ) × (count < length bytes) × (after ≡ append_known before (take count bytes))

-- all of the first bytes was written, and a front of the others, of which at least the last one was not
abbrev pub WroteInto : Option (List ℕ) → Option (List ℕ) → List ℕ → List ℕ → Type 0
WroteInto before after first bytes = (count : ℕ) × (count < length bytes) × (after ≡ append_known before (first ++ take count bytes))

-- a front of the bytes was written, and the rest is still to be
pub record HandedOver (before now : Option (List ℕ)) (bytes rest : List ℕ) : Type 0 where
  pub done : List ℕ
  pub all : bytes ≡ done ++ rest
  pub grown : now ≡ append_known before done
