use Rattle.preroll.specs.PayloadFound.{preroll_of_is}
use Rattle.preroll.proofs.laws.payloads_are_their_prerolls.Goals as goal

pub returns : goal.returns
returns c = preroll_of_is
