use Rattle.std.proofs.Common.{◌∙◌}
use Rattle.xheaac_tool.proofs.PairLemmas.{fewer}
use Rattle.xheaac_tool.proofs.piece_words.are_pairs.Goals as goal

pub returns : goal.returns
returns c = c.is_empty.ensures ∙ (fewer c.loop-later.later.now c.in_default.len_below ∙ c.loop-later.invariant)
