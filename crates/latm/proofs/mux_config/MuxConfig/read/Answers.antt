use Rattle.std.proofs.Common.{Ok}
use Rattle.layout.proofs.Layouts.{reads_unless, unless_back}
use Rattle.latm.specs.Faults.{is_memory}
use Rattle.latm.specs.MuxConfig.{mux_config}
use Rattle.latm.specs.MuxConfigExact.{mux_config_exact}
use Rattle.latm.proofs.mux_config.MuxConfig.read.Goals as goal

pub returns-in-Ok-clause-reads : goal.returns-in-Ok-clause-reads
returns-in-Ok-clause-reads c = reads_unless is_memory mux_config mux_config_exact c.args.reader.now c.read_fields.new.reader (Ok c.in-Ok.config) c.in-Ok.ensures tt

pub returns-in-Err-clause-reads : goal.returns-in-Err-clause-reads
returns-in-Err-clause-reads c = unless_back is_memory mux_config mux_config_exact c.args.reader.now c.read_fields.new.reader c.back_to.new.self c.in-Err.fault c.at-start.result c.in-Err.ensures c.at-start.ensures.at c.back_to.ensures
