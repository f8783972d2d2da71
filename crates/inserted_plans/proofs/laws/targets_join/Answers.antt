use Rattle.inserted_plans.proofs.Joining.{targets_join}
use Rattle.inserted_plans.proofs.laws.targets_join.Goals as goal

pub returns : goal.returns
returns c = targets_join
