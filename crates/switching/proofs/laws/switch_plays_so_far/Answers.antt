use Rattle.switching.proofs.PlayedPlan.{plays_so_far}
use Rattle.switching.proofs.laws.switch_plays_so_far.Goals as goal

pub returns : goal.returns
returns g c = plays_so_far g.C.Core.does c.sound_splices_converge.ensures
