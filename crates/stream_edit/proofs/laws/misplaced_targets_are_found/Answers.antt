use Rattle.stream_edit.proofs.Misplaced.{finds_misplaced}
use Rattle.stream_edit.proofs.laws.misplaced_targets_are_found.Goals as goal

pub returns : goal.returns
returns c = finds_misplaced
