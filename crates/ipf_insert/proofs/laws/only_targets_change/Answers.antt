use Rattle.ipf_insert.proofs.ChangedSlots.{only_targets}
use Rattle.ipf_insert.proofs.laws.only_targets_change.Goals as goal

pub returns : goal.returns
returns c = only_targets
