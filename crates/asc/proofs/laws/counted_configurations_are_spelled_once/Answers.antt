use Rattle.layout.proofs.Whole.{spells_once}
use Rattle.asc.specs.Asc.{asc_counted}
use Rattle.asc.specs.AscExact.{asc_counted_exact}
use Rattle.asc.proofs.laws.counted_configurations_are_spelled_once.Goals as goal

pub returns : goal.returns
returns c = spells_once asc_counted asc_counted_exact
