use Rattle.usac_cfg.specs.SameFound.{same_where_equal}
use Rattle.usac_cfg.proofs.laws.configurations_are_compared.Goals as goal

pub returns : goal.returns
returns c = same_where_equal
