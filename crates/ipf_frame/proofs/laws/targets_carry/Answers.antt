use Rattle.ipf_frame.proofs.CarriedUnits.{targets_carry}
use Rattle.ipf_frame.proofs.laws.targets_carry.Goals as goal

pub returns : goal.returns
returns c = targets_carry
