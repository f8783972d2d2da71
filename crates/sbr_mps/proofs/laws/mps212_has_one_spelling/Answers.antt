use Rattle.layout.proofs.Layouts.{prefix_free}
use Rattle.sbr_mps.specs.Mps212.{mps212}
use Rattle.sbr_mps.specs.Exact.{mps212_exact}
use Rattle.sbr_mps.proofs.laws.mps212_has_one_spelling.Goals as goal

pub returns : goal.returns
returns c = λ stereo. prefix_free (mps212 stereo) (mps212_exact stereo)
