-- Texts of bits, and what a number spells. The most significant bit comes first.
use Rattle.std.specs.Prelude.{ℕ, zero, suc, ◌+◌, ◌-◌, ◌*◌, ◌/◌, ◌%◌, Bool, true, false, List, [], ◌∷◌, ◌++◌, ◌==◌, length, replicate}
use Rattle.std.specs.List.{flat_map}

abbrev pub is_odd : ℕ → Bool
is_odd v = v % 2 == 1

abbrev pub digit : Bool → ℕ
digit true = 1
digit false = 0

-- the lowest n bits of v, most significant first
unfoldable pub num : ℕ → ℕ → List Bool
num zero v = []
num (suc n) v = num n (v / 2) ++ is_odd v ∷ []

-- the number that bits spell, behind a number that was spelled before them
unfoldable pub value_after : ℕ → List Bool → ℕ
value_after v [] = v
value_after v (b ∷ bs) = value_after (2 * v + digit b) bs

-- the bits of bytes
unfoldable pub bits_of : List ℕ → List Bool
bits_of bytes = flat_map (num 8) bytes

-- a text behind which the fewest zeros stand that make whole bytes
abbrev pub pad : List Bool → List Bool
pad t = t ++ replicate ((8 - length t % 8) % 8) false
