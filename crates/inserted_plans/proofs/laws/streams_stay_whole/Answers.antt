use Rattle.inserted_plans.proofs.Whole.{streams_stay_whole}
use Rattle.inserted_plans.proofs.laws.streams_stay_whole.Goals as goal

pub returns : goal.returns
returns c = streams_stay_whole
