-- The numbers of the command line.
use Rattle.std.specs.Prelude.{ℕ, ◌+◌, ◌-◌, ◌*◌, ◌^◌, Bool, true, ◌&&◌, nat_lt, List, [], ◌∷◌, length, if◌then◌else◌, Some, None}
use Rattle.std.specs.declared.option.Option.{Option}
use Rattle.std.specs.Char.{is_ascii_digit}

-- each character is one of 0 to 9
abbrev pub are_digits : List ℕ → Bool
are_digits [] = true
are_digits (code ∷ codes) = is_ascii_digit code && are_digits codes

-- the number that digits write, the first of them counting most; the code of 0 is 48
abbrev pub value_of : List ℕ → ℕ
value_of [] = 0
value_of (code ∷ codes) = (code - 48) * 10 ^ length codes + value_of codes

-- NUMBER: 1 to 18 digits, the first of which may be 0
abbrev pub is_number : List ℕ → Bool
is_number word = nat_lt 0 (length word) && nat_lt (length word) 19 && are_digits word

-- the number that a word is, if it is one
abbrev pub number_of : List ℕ → Option ℕ
number_of word = if is_number word then Some (value_of word) else None
