use Rattle.layout.proofs.Layouts.{reads_unless}
use Rattle.layout.proofs.laws.is_read_unless.Goals as goal

pub returns : goal.returns
returns g c = λ free. reads_unless free g.L.Format.layout g.L.Format.exact
