use Rattle.switch_player.proofs.Converging.{splices_converge}
use Rattle.switch_player.proofs.laws.sound_splices_converge.Goals as goal

pub returns : goal.returns
returns g c = splices_converge g.C.Core.does g.met.C.Core.stays_sound g.met.C.Core.warms_up
