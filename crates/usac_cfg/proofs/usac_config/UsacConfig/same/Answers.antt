use Rattle.std.proofs.Common.{[], ◌++◌, ap}
use Rattle.layout.proofs.Layouts.{prefix_free}
use Rattle.usac_cfg.specs.Spelling.{usac_config}
use Rattle.usac_cfg.specs.UsacExact.{usac_config_exact}
use Rattle.usac_cfg.proofs.usac_config.UsacConfig.same.Goals as goal

pub returns-clause-spelled : goal.returns-clause-spelled
returns-clause-spelled c = λ v w.
    let one = prefix_free usac_config usac_config_exact c.args.self.now c.args.other.now [] [] v w in
    (λ e. ap (λ u. usac_config.spelling u) (c.has_fields_of.ensures.0 e), λ e. c.has_fields_of.ensures.1 (one (ap (λ t. t ++ []) e)).0)
