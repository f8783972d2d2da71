-- What the devices in memory hold.
use Rattle.std.specs.Prelude.{ℕ, ◌+◌, List, [], find, drop, get_or}
use Rattle.std.specs.declared.option.Option.{Option}
use Rattle.std.specs.Option.{option_map}
use Rattle.std.specs.Str.{bytes_eq}
use Rattle.outside.specs.Plan.{Plan}

-- bytes under a name
pub record Named : Type 0 where
  pub name : List ℕ
  pub bytes : List ℕ

-- a begun input
pub record Input : Type 0 where
  -- how many bytes its reads gave
  pub given : ℕ
  -- the bytes that are left
  pub left : List ℕ

-- a shelf in memory
pub record Stock : Type 0 where
  -- the greatest number of bytes that one read gives
  pub piece : ℕ
  -- which reads fail, where the reads of all inputs are counted together
  pub plan : Plan
  -- the names, in the order in which they were added
  pub held : List Named
  -- the begun inputs, by their numbers
  pub begun : List Input

-- a sink in memory
pub record Collected : Type 0 where
  -- the greatest number of bytes that one write takes
  pub piece : ℕ
  -- which writes fail
  pub plan : Plan
  -- all that was written
  pub bytes : List ℕ

-- the bytes under a name, where it is held
abbrev pub bytes_of : List Named → List ℕ → Option (List ℕ)
bytes_of held name = option_map (λ one. one.bytes) (find (λ one. bytes_eq one.name name) held)

-- an input at its first byte
abbrev pub at_start : List ℕ → Input
at_start bytes = record { given = 0; left = bytes }

-- an input after a read of n bytes
abbrev pub advanced : ℕ → Input → Input
advanced n input = record { given = input.given + n; left = drop n input.left }

-- The begun input with that number. One that was never begun has nothing left.
abbrev pub input_at : List Input → ℕ → Input
input_at begun id = get_or begun id (at_start [])
