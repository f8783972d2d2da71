use Rattle.ipf_frame.proofs.StrippedUnits.{stripped_are_few}
use Rattle.ipf_frame.proofs.laws.stripped_are_few.Goals as goal

pub returns : goal.returns
returns c = stripped_are_few
