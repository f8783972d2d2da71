use Rattle.std.proofs.Common.{◌∙◌}
use Rattle.stream_edit.proofs.Placed.{found}
use Rattle.stream_edit.proofs.targets.is_target.Goals as goal

pub returns : goal.returns
returns c = c.is_ok.ensures.value ∙ found c.args.targets.now c.args.frame c.binary_search.result c.requires c.binary_search.ensures.position
