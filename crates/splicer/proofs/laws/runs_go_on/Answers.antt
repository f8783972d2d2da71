use Rattle.splicer.proofs.GoingOn.{runs_on}
use Rattle.splicer.proofs.laws.runs_go_on.Goals as goal

pub returns : goal.returns
returns c = runs_on
