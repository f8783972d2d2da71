-- The bytes that a text of bits spells.
use Rattle.std.specs.Prelude.{ℕ, zero, suc, ◌/◌, Bool, List, [], ◌∷◌, length, take, drop}
use Rattle.layout.specs.Text.{value_after}

-- the first bytes of a text, so many of them
unfoldable pub front_bytes : ℕ → List Bool → List ℕ
front_bytes zero text = []
front_bytes (suc n) text = value_after 0 (take 8 text) ∷ front_bytes n (drop 8 text)

-- 8 bits a byte, the most significant bit first; fewer than 8 bits at the end make none
unfoldable pub bytes_of : List Bool → List ℕ
bytes_of text = front_bytes (length text / 8) text
