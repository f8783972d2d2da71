use Rattle.ipf_frame.proofs.Undone.{undoes}
use Rattle.ipf_frame.proofs.laws.targets_are_undone.Goals as goal

pub returns : goal.returns
returns c = undoes
