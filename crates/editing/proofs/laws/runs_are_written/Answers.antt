use Rattle.editing.proofs.Written.{runs_written}
use Rattle.editing.proofs.laws.runs_are_written.Goals as goal

pub returns : goal.returns
returns c = runs_written
