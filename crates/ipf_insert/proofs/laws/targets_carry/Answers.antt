use Rattle.ipf_insert.proofs.CarriedFrames.{targets_carry}
use Rattle.ipf_insert.proofs.laws.targets_carry.Goals as goal

pub returns : goal.returns
returns c = targets_carry
