use Rattle.std.proofs.Common.{◌≡◌, is_some, length}
use denote.Text.{Utf8}
use denote.Shadow.{shadow}
use Rattle.xheaac_tool.specs.TargetWords.{between_commas, numbers_of}
use Rattle.xheaac_tool.proofs.target_words.are_numbers.Given as goal

-- The word is numbers exactly where what is to come of it is.
abbrev pub invariant-loop-number : goal.invariant-loop-number
invariant-loop-number l = shadow (Utf8 l.later) × (is_some (numbers_of (between_commas l.later)) ≡ is_some (numbers_of (between_commas l.word)))

abbrev pub decreases-loop-number : goal.decreases-loop-number
decreases-loop-number l = length l.later
