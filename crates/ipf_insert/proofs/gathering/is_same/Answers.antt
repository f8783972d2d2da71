use Rattle.usac_cfg.specs.SameFound.{same_told}
use Rattle.ipf_insert.proofs.gathering.is_same.Goals as goal

pub returns : goal.returns
returns c = same_told c.same.result c.args.a.now c.args.b.now c.requires.first c.requires.second c.same.ensures.equal
