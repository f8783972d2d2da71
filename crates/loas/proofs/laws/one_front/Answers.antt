use Rattle.loas.proofs.Frames.{lost_is, some_front, wrong_of_lost}
use Rattle.loas.proofs.laws.one_front.Goals as goal

pub returns-clause-some : goal.returns-clause-some
returns-clause-some c text bytes = some_front text bytes

pub returns-clause-lost : goal.returns-clause-lost
returns-clause-lost c text bytes = (lost_is text, wrong_of_lost text bytes)
