use Rattle.layout.proofs.Layouts.{prefix_free}
use Rattle.esc_value.specs.LatmValue.{latm_value}
use Rattle.esc_value.specs.LatmExact.{latm_value_exact}
use Rattle.esc_value.proofs.laws.latm_value_has_one_spelling.Goals as goal

pub returns : goal.returns
returns c = prefix_free latm_value latm_value_exact
