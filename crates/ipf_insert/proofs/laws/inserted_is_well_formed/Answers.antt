use Rattle.ipf_insert.proofs.ChangedStream.{stays}
use Rattle.ipf_insert.proofs.laws.inserted_is_well_formed.Goals as goal

pub returns : goal.returns
returns c = stays
