use Rattle.splicer.proofs.Held.{holds_last_units}
use Rattle.splicer.proofs.laws.runs_hold_the_last_units.Goals as goal

pub returns : goal.returns
returns c = holds_last_units
