use Rattle.ipf_strip.proofs.StrippedStreams.{units_stay}
use Rattle.ipf_strip.proofs.laws.units_stay.Goals as goal

pub returns : goal.returns
returns c = units_stay
