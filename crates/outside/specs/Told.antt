-- What the calls of a device do to the bytes that it tells, where it tells them. `None` tells nothing.
use Rattle.std.specs.Prelude.{◌≡◌, ℕ, ◌<◌, ◌≤◌, List, length, take, IfOk, MatchResult, Result}
use Rattle.std.specs.declared.option.Option.{Option}
use Rattle.std.specs.Io.KnownBytes.{prepend_known, append_known, IsAtEnd}
use Rattle.outside.specs.declared.fault.DeviceFault.{DeviceFault}

-- A read gives a front of what is left, nothing only at the end, and takes nothing at a fault.
pub record Reads (old new : Option (List ℕ)) (result : Result ℕ DeviceFault) (into : List ℕ) : Type 0 where
  -- no more bytes than the slice has room for
  pub bound : IfOk result (λ n. n ≤ length into)
  -- the bytes given stood at the front of what was left
  pub taken : MatchResult result (λ n. old ≡ prepend_known (take n into) new) (λ _. new ≡ old)
  -- nothing given, though there was room: the end
  pub end : IfOk result (λ n. n ≡ 0 → 0 < length into → IsAtEnd new)

-- A write takes a front of its slice, and nothing at a fault.
pub record Writes (old new : Option (List ℕ)) (result : Result ℕ DeviceFault) (from : List ℕ) : Type 0 where
  -- no more bytes than the slice has
  pub bound : IfOk result (λ n. n ≤ length from)
  -- the bytes taken stand behind what was written before
  pub grown : MatchResult result (λ n. new ≡ append_known old (take n from)) (λ _. new ≡ old)
  -- of a slice that is not empty at least one byte is taken
  pub some : IfOk result (λ n. 0 < length from → 0 < n)
