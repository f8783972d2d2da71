use Rattle.switching.proofs.PlayedPlan.{plays_sound_plans}
use Rattle.switching.proofs.laws.switch_plays_sound_plans.Goals as goal

pub returns : goal.returns
returns g c = plays_sound_plans g.C.Core.does c.sound_splices_converge.ensures c.sound_plans_are_given.ensures
