use Rattle.std.proofs.Common.{◌≡◌, ◌++◌, length}
use Rattle.std.specs.Option.{option_map}
use denote.Text.{Utf8}
use denote.Shadow.{shadow}
use Rattle.xheaac_tool.specs.TargetWords.{between_commas, numbers_of}
use Rattle.xheaac_tool.proofs.target_words.read_numbers.Given as goal

-- The numbers that were read, and those of what is to come, are those of the word.
abbrev pub invariant-loop-number : goal.invariant-loop-number
invariant-loop-number l = shadow (Utf8 l.later) × (option_map (λ more. l.numbers.items ++ more) (numbers_of (between_commas l.later)) ≡ numbers_of (between_commas l.word))

abbrev pub decreases-loop-number : goal.decreases-loop-number
decreases-loop-number l = length l.later
