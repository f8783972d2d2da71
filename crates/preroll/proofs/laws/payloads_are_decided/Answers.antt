use Rattle.preroll.specs.PreRollExact.{decided}
use Rattle.preroll.proofs.laws.payloads_are_decided.Goals as goal

pub returns : goal.returns
returns c = decided
