use Rattle.std.proofs.Common.{Ok, refl, arith}
use Rattle.layout.proofs.Layouts.{reads_by, whole_ok, whole_err}
use Rattle.bit_core.specs.Plain.{short_at}
use Rattle.esc_value.specs.LatmValue.{latm_fields, latm_value}
use Rattle.esc_value.proofs.Refusals.{refused}
use Rattle.esc_value.specs.LatmExact.{latm_value_exact}
use Rattle.esc_value.proofs.latm_value.LatmValue.read.Goals as goal

pub returns-in-Ok-clause-reads : goal.returns-in-Ok-clause-reads
returns-in-Ok-clause-reads c = reads_by latm_value latm_value_exact c.args.reader.now c.read_fields.new.reader (Ok c.in-Ok.value) (whole_ok short_at latm_fields c.args.reader.now c.read_fields.new.reader c.in-Ok.value c.in-Ok.ensures) tt

pub returns-in-Err-clause-reads : goal.returns-in-Err-clause-reads
returns-in-Err-clause-reads c =
    let gives = whole_err short_at latm_fields c.args.reader.now c.read_fields.new.reader _ c.in-Err.ensures in
    refused latm_value latm_value_exact c.args.reader.now c.read_fields.new.reader c.back_to.new.self _ _ gives c.back_to.ensures refl (omega arith) (omega arith)
