use Rattle.ipf_strip.proofs.StrippedStreams.{only_targets}
use Rattle.ipf_strip.proofs.laws.only_targets_change.Goals as goal

pub returns : goal.returns
returns c = only_targets
