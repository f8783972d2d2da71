use Rattle.ipf_strip.proofs.UndoneInsertions.{undoes_insertions}
use Rattle.ipf_strip.proofs.laws.insertions_are_undone.Goals as goal

pub returns : goal.returns
returns c = undoes_insertions
