use Rattle.layout.proofs.Layouts.{prefix_free}
use Rattle.usac_cfg.specs.Spelling.{usac_config}
use Rattle.usac_cfg.specs.UsacExact.{usac_config_exact}
use Rattle.usac_cfg.proofs.laws.usac_config_has_one_spelling.Goals as goal

pub returns : goal.returns
returns c = prefix_free usac_config usac_config_exact
