use Rattle.switching.proofs.CutPlans.{plays_before_events}
use Rattle.switching.proofs.laws.switch_plays_before_events.Goals as goal

pub returns : goal.returns
returns g c = plays_before_events g.C.Core.does c.sound_splices_converge.ensures c.sound_plans_are_given.ensures
