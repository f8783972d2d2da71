use Rattle.splicer.proofs.Beginnings.{tells_beginnings}
use Rattle.splicer.proofs.laws.beginnings_are_told.Goals as goal

pub returns : goal.returns
returns c = tells_beginnings
