-- What decoding is, apart from any code. The standard decodes audio, and says how; these words only
-- speak of a decoder's state, and are this project's own.
use Rattle.std.specs.Prelude.{ℕ, List, [], ◌∷◌, ◌++◌, ℤ}
use Rattle.usac_cfg.specs.declared.usac_config.UsacConfig.{UsacConfig}
use Rattle.usac_frame.specs.Units.{UnitValue}

-- What a type of core says of itself. A state is a list of whole numbers.
pub record Definitions : Type 1 where
  -- the state at the start of a stream
  pub init : UsacConfig → List ℕ
  -- the state behind a unit
  pub next : UsacConfig → List ℕ → UnitValue → List ℕ
  -- the block that is emitted for a unit
  pub emit : UsacConfig → List ℕ → UnitValue → List ℤ
  -- the samples that are still to come behind the last unit
  pub drain : UsacConfig → List ℕ → List ℤ
  -- the states that can occur
  pub sound : UsacConfig → List ℕ → Type 0
  -- how many units before a unit its block may depend on, where the first of them is independent
  pub warm : UsacConfig → ℕ
  -- the configurations at which a calm core does not fail
  pub serves : UsacConfig → Type 0

-- the blocks that are emitted over the units, one a unit
abbrev pub out : Definitions → UsacConfig → List ℕ → List UnitValue → List (List ℤ)
out d c s [] = []
out d c s (u ∷ us) = d.emit c s u ∷ out d c (d.next c s u) us

-- the state behind the units
abbrev pub after : Definitions → UsacConfig → List ℕ → List UnitValue → List ℕ
after d c s [] = s
after d c s (u ∷ us) = after d c (d.next c s u) us

-- the samples of blocks, one block after another
abbrev pub samples_of : List (List ℤ) → List ℤ
samples_of [] = []
samples_of (b ∷ bs) = b ++ samples_of bs
