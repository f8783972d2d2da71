use Rattle.switch_player.proofs.RefusedOnce.{refused_once}
use Rattle.switch_player.proofs.laws.frames_are_refused_once.Goals as goal

pub returns : goal.returns
returns g c = refused_once g.C.Core.does
