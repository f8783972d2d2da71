use Rattle.inserted_plans.proofs.SoundPlans.{sound_plans_stay}
use Rattle.inserted_plans.proofs.laws.sound_plans_stay.Goals as goal

pub returns : goal.returns
returns g c = sound_plans_stay g.C.Core.does
