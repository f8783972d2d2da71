use Rattle.ipf_frame.proofs.StrippedUnits.{stripped_is_made}
use Rattle.ipf_frame.proofs.laws.stripped_is_made.Goals as goal

pub returns : goal.returns
returns c = stripped_is_made
