use Rattle.layout.proofs.ToEnd.{decided_by}
use Rattle.layout.proofs.laws.is_decided.Goals as goal

pub returns : goal.returns
returns g c = decided_by g.L.Format.layout g.L.Format.exact
