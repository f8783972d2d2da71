use Rattle.layout.proofs.Layouts.{one_fault}
use Rattle.layout.proofs.laws.one_fault.Goals as goal

pub returns : goal.returns
returns g c = one_fault g.L.Format.layout g.L.Format.exact
