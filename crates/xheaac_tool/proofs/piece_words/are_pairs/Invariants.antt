use Rattle.std.proofs.Common.{◌≡◌, is_some, length}
use Rattle.xheaac_tool.specs.Words.{pairs_of, texts}
use Rattle.xheaac_tool.proofs.piece_words.are_pairs.Given as goal

-- The words are pairs exactly where those to come are.
abbrev pub invariant-loop-later : goal.invariant-loop-later
invariant-loop-later l = is_some (pairs_of (texts l.later)) ≡ is_some (pairs_of (texts l.words))

abbrev pub decreases-loop-later : goal.decreases-loop-later
decreases-loop-later l = length l.later
