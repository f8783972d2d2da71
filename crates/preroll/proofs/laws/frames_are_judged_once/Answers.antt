use Rattle.preroll.proofs.OneRule.{judged_once}
use Rattle.preroll.proofs.laws.frames_are_judged_once.Goals as goal

pub returns : goal.returns
returns c = judged_once
