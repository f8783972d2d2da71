use Rattle.inserted_plans.proofs.Starting.{targets_begin_warm}
use Rattle.inserted_plans.proofs.laws.targets_begin_warm.Goals as goal

pub returns : goal.returns
returns c = targets_begin_warm
