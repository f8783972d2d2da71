use Rattle.layout.proofs.Layouts.{one_fault}
use Rattle.layout.proofs.ToEnd.{decided_by}
use Rattle.sbr_mps.specs.Mps212.{mps212}
use Rattle.sbr_mps.specs.Exact.{mps212_exact}
use Rattle.sbr_mps.proofs.laws.mps212_settings_are_decided.Goals as goal

pub returns-clause-decided : goal.returns-clause-decided
returns-clause-decided c = λ stereo. decided_by (mps212 stereo) (mps212_exact stereo)

pub returns-clause-one_fault : goal.returns-clause-one_fault
returns-clause-one_fault c = λ stereo. one_fault (mps212 stereo) (mps212_exact stereo)
