use Rattle.ipf_frame.proofs.StrippedUnits.{targets_are_stripped}
use Rattle.ipf_frame.proofs.laws.targets_are_stripped.Goals as goal

pub returns : goal.returns
returns c = targets_are_stripped
