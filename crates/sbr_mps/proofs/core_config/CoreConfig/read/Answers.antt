use Rattle.std.proofs.Common.{Ok}
use Rattle.layout.proofs.Layouts.{reads_by, reads_back}
use Rattle.sbr_mps.specs.CoreConfig.{core_config}
use Rattle.sbr_mps.specs.Exact.{core_config_exact}
use Rattle.sbr_mps.proofs.core_config.CoreConfig.read.Goals as goal

pub returns-in-Ok-clause-reads : goal.returns-in-Ok-clause-reads
returns-in-Ok-clause-reads c = reads_by core_config core_config_exact c.args.reader.now c.read_core.new.reader (Ok c.in-Ok.value) c.in-Ok.ensures tt

pub returns-in-Err-clause-reads : goal.returns-in-Err-clause-reads
returns-in-Err-clause-reads c = reads_back core_config core_config_exact c.args.reader.now c.read_core.new.reader c.back_to.new.self c.in-Err.fault c.at-start.result c.in-Err.ensures c.at-start.ensures.at c.back_to.ensures
