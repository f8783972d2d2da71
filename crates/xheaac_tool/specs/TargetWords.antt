-- The targets that a word of the command line asks for.
use Rattle.std.specs.Prelude.{ℕ, ◌==◌, nat_eq, nat_le, Bool, List, [], ◌∷◌, drop, length, codes, Some, None, if◌then◌else◌}
use Rattle.std.specs.declared.option.Option.{Option}
use Rattle.std.specs.List.{slice_split, starts_with}
use Rattle.std.specs.Option.{option_map, option_and_then}
use Rattle.editing.specs.declared.targets.Targets.{Targets}
use Rattle.editing.specs.declared.targets.Targets.TheVariants.{Each, Every}
use Rattle.xheaac_tool.specs.Numbers.{number_of}

-- the number, before others
abbrev pub number_before : Option ℕ → Option (List ℕ) → Option (List ℕ)
number_before None numbers = None
number_before (Some number) None = None
number_before (Some number) (Some numbers) = Some (number ∷ numbers)

-- the numbers that words are, where each is one
abbrev pub numbers_of : List (List ℕ) → Option (List ℕ)
numbers_of [] = Some []
numbers_of (word ∷ words) = number_before (number_of word) (numbers_of words)

-- the words between the commas of a word; the code of a comma is 44
abbrev pub between_commas : List ℕ → List (List ℕ)
between_commas word = slice_split (λ code. code == 44) word

-- the number, where it is at least 1
abbrev pub if_some : ℕ → Option ℕ
if_some step = if nat_le 1 step then Some step else None

-- a NUMBER of at least 1
abbrev pub step_of : List ℕ → Option ℕ
step_of word = option_and_then if_some (number_of word)

-- TARGETS: NUMBERs joined by single commas, or `every:` and a NUMBER of at least 1
abbrev pub targets_of : List ℕ → Option Targets
targets_of word = if starts_with nat_eq word (codes "every:") then option_map Every (step_of (drop 6 word)) else option_map Each (numbers_of (between_commas word))
