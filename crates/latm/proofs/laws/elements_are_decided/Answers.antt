use Rattle.latm.specs.MuxElementExact.{decided}
use Rattle.latm.proofs.laws.elements_are_decided.Goals as goal

pub returns : goal.returns
returns c = decided
