use Rattle.latm.specs.MuxElementExact.{spelled_once}
use Rattle.latm.proofs.laws.elements_are_spelled_once.Goals as goal

pub returns : goal.returns
returns c = spelled_once
