use Rattle.std.proofs.Common.{Ok}
use Rattle.layout.proofs.Layouts.{reads_by, reads_back}
use Rattle.sbr_mps.specs.Mps212.{mps212}
use Rattle.sbr_mps.specs.Exact.{mps212_exact}
use Rattle.sbr_mps.proofs.mps.Mps212.read.Goals as goal

pub returns-in-Ok-clause-reads : goal.returns-in-Ok-clause-reads
returns-in-Ok-clause-reads c = reads_by (mps212 c.args.stereo) (mps212_exact c.args.stereo) c.args.reader.now c.read_mps.new.reader (Ok c.in-Ok.value) c.in-Ok.ensures tt

pub returns-in-Err-clause-reads : goal.returns-in-Err-clause-reads
returns-in-Err-clause-reads c = reads_back (mps212 c.args.stereo) (mps212_exact c.args.stereo) c.args.reader.now c.read_mps.new.reader c.back_to.new.self c.in-Err.fault c.at-start.result c.in-Err.ensures c.at-start.ensures.at c.back_to.ensures
