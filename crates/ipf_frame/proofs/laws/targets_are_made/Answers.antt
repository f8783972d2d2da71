use Rattle.ipf_frame.proofs.Targets.{targets_made}
use Rattle.ipf_frame.proofs.laws.targets_are_made.Goals as goal

pub returns : goal.returns
returns c = targets_made
