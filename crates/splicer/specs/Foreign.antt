-- Carried units beside those that the stream has before the frame. The units that stand for n carried ones are the last n of
-- these, in order; where there are fewer, the first carried units have none.
use Rattle.std.specs.Prelude.{◌≡◌, ℕ, ◌+◌, ◌-◌, ◌≤◌, List, [], ◌∷◌, ◌++◌, length, drop, Option, Some, None, Bool, ◌&&◌, ◌↔◌, nat_lt, if◌then◌else◌}
use Rattle.usac_cfg.specs.Same.{same_bit, same_bits}
use Rattle.usac_frame.specs.Units.{UnitValue}

-- two units are equal
unfoldable pub same_unit : UnitValue → UnitValue → Bool
same_unit u v = same_bit u.independent v.independent && same_bits u.bits v.bits

-- the least place, from k on, at which a list of units differs from another, or has a unit more
abbrev pub first_different : ℕ → List UnitValue → List UnitValue → Option ℕ
first_different k [] vs = None
first_different k (u ∷ us) [] = Some k
first_different k (u ∷ us) (v ∷ vs) = if same_unit u v then first_different (k + 1) us vs else Some k

-- The least carried unit that is not the one that stands for it among the units before. A unit for which none stands is one.
abbrev pub foreign : List UnitValue → List UnitValue → Option ℕ
foreign before carried =
    if nat_lt (length before) (length carried) then Some 0 else first_different 0 carried (drop (length before - length carried) before)

-- the last n units; all where there are fewer
abbrev pub last_n : ℕ → List UnitValue → List UnitValue
last_n n us = drop (length us - n) us

-- What is kept of a stream's units decides as all of them do: for no more carried units than are kept, the least foreign one is the
-- same. No carried unit is foreign exactly where the units before end with those that are carried.
pub record IsDecidedByLast : Type 0 where
  pub same : (n : ℕ) (before carried : List UnitValue) → length carried ≤ n → foreign (last_n n before) carried ≡ foreign before carried
  pub none : (before carried : List UnitValue) → (foreign before carried ≡ None) ↔ ((front : List UnitValue) × (before ≡ front ++ carried))
