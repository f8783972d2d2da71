use Rattle.inserted_plans.proofs.Cuts.{cuts_with_fades}
use Rattle.inserted_plans.proofs.laws.cuts_with_fades.Goals as goal

pub returns : goal.returns
returns g c = cuts_with_fades g.C.Core.does
