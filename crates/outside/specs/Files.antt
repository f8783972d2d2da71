-- What is told of a shelf over files.
use Rattle.std.specs.Prelude.{ℕ}

pub record FileCounts : Type 0 where
  -- how many files were begun
  pub begun : ℕ
  pub faults : ℕ
