use Rattle.std.proofs.lemmas.Result.{IfOk-weaker}
use Rattle.usac_frame.proofs.tests.read_fitting.Goals as goal

pub returns : goal.returns
returns c = IfOk-weaker c.read_frame.result _ _ (λ frame p. p.0) c.read_frame.ensures.found
