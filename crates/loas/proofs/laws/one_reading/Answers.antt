use Rattle.loas.proofs.Reading.{one_reading}
use Rattle.loas.proofs.laws.one_reading.Goals as goal

pub returns : goal.returns
returns c text one other p q = one_reading text one other p q
