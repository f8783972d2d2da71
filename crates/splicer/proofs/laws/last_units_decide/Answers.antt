use Rattle.splicer.specs.ForeignFound.{decided_by_last}
use Rattle.splicer.proofs.laws.last_units_decide.Goals as goal

pub returns : goal.returns
returns c = decided_by_last
