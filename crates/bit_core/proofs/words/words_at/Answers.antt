use Rattle.bit_core.proofs.TypeLemmas.{holds_none}
use Rattle.bit_core.proofs.words.words_at.Goals as goal

pub returns-then-n-eq0 : goal.returns-then-n-eq0
returns-then-n-eq0 c = rw c.if-n-eq0.true (holds_none _ c.new.ensures.items)
