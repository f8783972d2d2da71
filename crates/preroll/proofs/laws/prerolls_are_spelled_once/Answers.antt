use Rattle.preroll.specs.PreRollExact.{spelled_once}
use Rattle.preroll.proofs.laws.prerolls_are_spelled_once.Goals as goal

pub returns : goal.returns
returns c = spelled_once
