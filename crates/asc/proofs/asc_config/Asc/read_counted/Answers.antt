use Rattle.std.proofs.Common.{Ok, arith}
use Rattle.layout.proofs.ToEnd.{reads_all_unless, all_unless_back}
use Rattle.asc.specs.Faults.{is_memory}
use Rattle.asc.specs.Asc.{asc_counted}
use Rattle.asc.specs.AscExact.{asc_counted_exact}
use Rattle.asc.proofs.asc_config.Asc.read_counted.Goals as goal

pub returns-in-Ok-clause-reads : goal.returns-in-Ok-clause-reads
returns-in-Ok-clause-reads c = reads_all_unless is_memory asc_counted asc_counted_exact c.args.reader.now _ (Ok c.in-Ok.asc) c.in-Ok.ensures tt

pub returns-in-Err-clause-reads : goal.returns-in-Err-clause-reads
returns-in-Err-clause-reads c = all_unless_back is_memory asc_counted asc_counted_exact c.args.reader.now _ c.back_to.new.self c.in-Err.fault _ c.in-Err.ensures (omega (arith, c.in-Err.ensures.1.1)) c.back_to.ensures
