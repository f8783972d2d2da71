use Rattle.ipf_frame.proofs.BareFrames.{clean_units}
use Rattle.ipf_frame.proofs.laws.clean_units_stay.Goals as goal

pub returns : goal.returns
returns c = clean_units
