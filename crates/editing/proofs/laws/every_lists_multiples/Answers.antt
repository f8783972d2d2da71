use Rattle.editing.proofs.Multiples.{are_multiples}
use Rattle.editing.proofs.laws.every_lists_multiples.Goals as goal

pub returns : goal.returns
returns c = are_multiples
