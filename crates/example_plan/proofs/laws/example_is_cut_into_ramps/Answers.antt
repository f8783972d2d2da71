use Rattle.example_plan.proofs.Blocks.{cut_into_ramps}
use Rattle.example_plan.proofs.laws.example_is_cut_into_ramps.Goals as goal

pub returns : goal.returns
returns c = cut_into_ramps
