use Rattle.switch_player.proofs.SplicesTaken.{refuses_no_splice}
use Rattle.switch_player.proofs.laws.refuses_no_splice.Goals as goal

pub returns : goal.returns
returns g c = refuses_no_splice g.C.Core.does
