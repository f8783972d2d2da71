use Rattle.layout.proofs.Layouts.{prefix_free}
use Rattle.sbr_mps.specs.SbrConfig.{sbr_config}
use Rattle.sbr_mps.specs.Exact.{sbr_config_exact}
use Rattle.sbr_mps.proofs.laws.sbr_config_has_one_spelling.Goals as goal

pub returns : goal.returns
returns c = prefix_free sbr_config sbr_config_exact
