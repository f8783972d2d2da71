use Rattle.std.proofs.Common.{arith}
use Rattle.splicer.proofs.Refusals.{some_length}
use Rattle.splicer.proofs.opening.length_of.Goals as goal

pub returns-clause-some : goal.returns-clause-some
returns-clause-some c = let some = some_length c.args.config.now c.requires in omega (arith, c.frame_length.ensures, some)
