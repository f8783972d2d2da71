use Rattle.std.proofs.Common.{Ok}
use Rattle.layout.proofs.Layouts.{reads_by, reads_back}
use Rattle.esc_value.specs.SlotLength.{slot}
use Rattle.esc_value.proofs.SlotExact.{slot_exact}
use Rattle.esc_value.proofs.slot_length.SlotLength.read.Goals as goal

pub returns-in-Ok-clause-reads : goal.returns-in-Ok-clause-reads
returns-in-Ok-clause-reads c = reads_by slot slot_exact c.args.reader.now c.added_up.new.reader (Ok c.in-Ok.length) c.in-Ok.ensures.exact tt

pub returns-in-Err-clause-reads : goal.returns-in-Err-clause-reads
returns-in-Err-clause-reads c = reads_back slot slot_exact c.args.reader.now c.added_up.new.reader c.back_to.new.self c.in-Err.fault c.at-start.result c.in-Err.ensures.exact c.at-start.ensures.at c.back_to.ensures
