-- Bits packed into words of 64, the first bit highest.
use Rattle.std.specs.Prelude.{◌≡◌, ℕ, ◌+◌, ◌-◌, ◌*◌, ◌<◌, ◌≤◌, Bool, false, List, ◌++◌, length, take, get_or, replicate}
use Rattle.std.specs.List.{flat_map}
use Rattle.layout.specs.Text.{num}

abbrev pub zeros : ℕ → List Bool
zeros n = replicate n false

-- all bits of words
unfoldable pub spread : List ℕ → List Bool
spread words = flat_map (num 64) words

-- the first bits of words, so many of them
unfoldable pub text_of : ℕ → List ℕ → List Bool
text_of len words = take len (spread words)

-- no word too many, and 0 in each bit that is not used
pub record IsPacked (words : List ℕ) (len : ℕ) : Type 0 where
  pub fits : len ≤ 64 * length words
  pub tight : 64 * length words < len + 64
  pub clean : spread words ≡ text_of len words ++ zeros (64 * length words - len)

-- words hold this text of so many bits, and no more
pub record Holds (words : List ℕ) (len : ℕ) (text : List Bool) : Type 0 where
  pub packed : IsPacked words len
  pub spelled : text_of len words ≡ text

-- words begin with this text of so many bits, and anything may stand behind it
pub record Reaches (words : List ℕ) (len : ℕ) (text : List Bool) : Type 0 where
  pub fits : len ≤ 64 * length words
  pub spelled : text_of len words ≡ text

-- only the first n bits of a word may be 1
pub record IsFront (n word : ℕ) : Type 0 where
  pub clean : num 64 word ≡ take n (num 64 word) ++ zeros (64 - n)

-- the first n bits of a number of n bits are those of a text from a place on; behind the text's end stand zeros
unfoldable pub ShowsFrom : ℕ → ℕ → List Bool → ℕ → Type 0
ShowsFrom n v bits at = (k : ℕ) → k < n → get_or (num n v) k false ≡ get_or bits (at + k) false
