use Rattle.layout.proofs.Layouts.{prefix_free}
use Rattle.asc.specs.Asc.{asc}
use Rattle.asc.specs.AscExact.{asc_exact}
use Rattle.asc.proofs.laws.asc_has_one_spelling.Goals as goal

pub returns : goal.returns
returns c = prefix_free asc asc_exact
