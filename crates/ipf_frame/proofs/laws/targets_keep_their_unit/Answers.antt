use Rattle.ipf_frame.proofs.KeptUnits.{keeps_unit}
use Rattle.ipf_frame.proofs.laws.targets_keep_their_unit.Goals as goal

pub returns : goal.returns
returns c = keeps_unit
