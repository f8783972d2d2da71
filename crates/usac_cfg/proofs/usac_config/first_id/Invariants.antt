use Rattle.std.proofs.Common.{◌≡◌, drop}
use Rattle.usac_cfg.specs.UsacConfig.{first_id}
use Rattle.usac_cfg.proofs.usac_config.first_id.Given as goal

abbrev pub invariant-loop-extension : goal.invariant-loop-extension
invariant-loop-extension l = first_id (drop l.extension-index l.extensions) ≡ first_id l.extensions
