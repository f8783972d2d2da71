use Rattle.layout.proofs.Layouts.{prefix_free}
use Rattle.esc_value.specs.Escaped.{escaped}
use Rattle.esc_value.specs.EscapedExact.{escaped_exact}
use Rattle.esc_value.proofs.laws.escaped_has_one_spelling.Goals as goal

pub returns : goal.returns
returns g c = prefix_free (escaped g.row.A g.row.B g.row.C) (escaped_exact g.row.A g.row.B g.row.C)
