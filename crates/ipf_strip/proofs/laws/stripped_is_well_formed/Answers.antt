use Rattle.ipf_strip.proofs.StrippedStreams.{well_formed}
use Rattle.ipf_strip.proofs.laws.stripped_is_well_formed.Goals as goal

pub returns : goal.returns
returns c = well_formed
