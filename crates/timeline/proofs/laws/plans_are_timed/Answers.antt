use Rattle.timeline.proofs.Timed.{plans_timed}
use Rattle.timeline.proofs.laws.plans_are_timed.Goals as goal

pub returns : goal.returns
returns c = plans_timed
