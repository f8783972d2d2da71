use Rattle.preroll.proofs.Judging.{shown_is}
use Rattle.preroll.proofs.laws.frames_are_shown.Goals as goal

pub returns : goal.returns
returns c = shown_is
