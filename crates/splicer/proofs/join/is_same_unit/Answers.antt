use Rattle.splicer.specs.ForeignFound.{unit_told}
use Rattle.splicer.proofs.join.is_same_unit.Goals as goal

pub returns : goal.returns
returns c = unit_told c.same.result c.args.a.now c.args.b.now c.same.ensures
