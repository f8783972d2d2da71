use Rattle.layout.proofs.Layouts.{prefix_free}
use Rattle.layout.proofs.laws.one_spelling.Goals as goal

pub returns : goal.returns
returns g c = prefix_free g.L.Format.layout g.L.Format.exact
