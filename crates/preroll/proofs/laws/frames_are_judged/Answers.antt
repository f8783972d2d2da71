use Rattle.preroll.proofs.Judging.{carried_is}
use Rattle.preroll.proofs.laws.frames_are_judged.Goals as goal

pub returns : goal.returns
returns c = carried_is
