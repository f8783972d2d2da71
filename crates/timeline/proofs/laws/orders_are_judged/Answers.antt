use Rattle.timeline.proofs.Timed.{judges_order}
use Rattle.timeline.proofs.laws.orders_are_judged.Goals as goal

pub returns : goal.returns
returns c = judges_order
