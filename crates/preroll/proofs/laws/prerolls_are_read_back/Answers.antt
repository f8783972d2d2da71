use Rattle.preroll.specs.PayloadFound.{read_back}
use Rattle.preroll.proofs.laws.prerolls_are_read_back.Goals as goal

pub returns : goal.returns
returns c = read_back
