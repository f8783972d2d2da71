use Rattle.preroll.specs.PayloadFound.{fault_of_is}
use Rattle.preroll.proofs.laws.payloads_have_their_faults.Goals as goal

pub returns : goal.returns
returns c = fault_of_is
