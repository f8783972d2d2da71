use Rattle.switch_player.proofs.OwnSplices.{takes_splices_alone}
use Rattle.switch_player.proofs.laws.takes_splices_alone.Goals as goal

pub returns : goal.returns
returns g c = takes_splices_alone g.C.Core.does
