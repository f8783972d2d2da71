use Rattle.ipf_frame.proofs.CleanBytes.{clean_is_made}
use Rattle.ipf_frame.proofs.laws.clean_is_made.Goals as goal

pub returns : goal.returns
returns c = clean_is_made
