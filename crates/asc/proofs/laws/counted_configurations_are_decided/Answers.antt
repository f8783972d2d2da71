use Rattle.layout.proofs.Whole.{decided_whole}
use Rattle.asc.specs.Asc.{asc_counted}
use Rattle.asc.specs.AscExact.{asc_counted_exact}
use Rattle.asc.proofs.laws.counted_configurations_are_decided.Goals as goal

pub returns : goal.returns
returns c = decided_whole asc_counted asc_counted_exact
