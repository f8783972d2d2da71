use Rattle.layout.proofs.Layouts.{reads_by}
use Rattle.layout.proofs.laws.is_read.Goals as goal

pub returns : goal.returns
returns g c = reads_by g.L.Format.layout g.L.Format.exact
