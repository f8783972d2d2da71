use Rattle.ipf_frame.proofs.StrippedUnits.{stripped_units_stay}
use Rattle.ipf_frame.proofs.laws.stripped_units_stay.Goals as goal

pub returns : goal.returns
returns c = stripped_units_stay
