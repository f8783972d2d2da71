use Rattle.inserted_plans.proofs.Cuts.{cuts_alike}
use Rattle.inserted_plans.proofs.laws.cuts_alike.Goals as goal

pub returns : goal.returns
returns g c = cuts_alike g.C.Core.does
