use Rattle.ipf_insert.proofs.KeptFrames.{units_stay}
use Rattle.ipf_insert.proofs.laws.units_stay.Goals as goal

pub returns : goal.returns
returns c = units_stay
