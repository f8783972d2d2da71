-- The parts of a line: numbers, truth values, bytes, and what is not there.
use Rattle.std.specs.Prelude.{ℕ, Bool, List, [], ◌∷◌, ◌++◌, Option, Some, None, codes, decimal}
use Rattle.std.specs.List.{flat_map}
use Rattle.hex.specs.Hex.{encode_lower}
use Rattle.layout.specs.Text.{digit}

-- one text, and another one behind it
infixr 10 ◌&◌
abbrev pub ◌&◌ : List ℕ → List ℕ → List ℕ
text & more = text ++ more

-- absent or empty
abbrev pub dash : List ℕ
dash = codes "-"

-- a truth value: 1 or 0
abbrev pub truth : Bool → List ℕ
truth b = decimal (digit b)

abbrev pub number_or_dash : Option ℕ → List ℕ
number_or_dash None = dash
number_or_dash (Some n) = decimal n

abbrev pub truth_or_dash : Option Bool → List ℕ
truth_or_dash None = dash
truth_or_dash (Some b) = truth b

-- bytes in lower-case hex, two digits a byte
abbrev pub hex_or_dash : List ℕ → List ℕ
hex_or_dash [] = dash
hex_or_dash (b ∷ bytes) = encode_lower (b ∷ bytes)

-- a comma before each number
abbrev pub behind_commas : List ℕ → List ℕ
behind_commas ns = flat_map (λ n. codes "," ++ decimal n) ns

-- numbers with a comma between two of them
abbrev pub joined : List ℕ → List ℕ
joined [] = []
joined (n ∷ ns) = decimal n ++ behind_commas ns
