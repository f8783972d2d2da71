use Rattle.std.proofs.Common.{Ok, refl, arith}
use Rattle.layout.proofs.Layouts.{reads_by, whole_ok, whole_err}
use Rattle.bit_core.specs.Plain.{short_at}
use Rattle.esc_value.specs.Escaped.{escaped, summed}
use Rattle.esc_value.proofs.Refusals.{refused}
use Rattle.esc_value.specs.EscapedExact.{escaped_exact}
use Rattle.esc_value.proofs.escaped.Escaped.read.Goals as goal

pub returns-in-Ok-clause-reads : goal.returns-in-Ok-clause-reads
returns-in-Ok-clause-reads g c = reads_by (escaped g.row.A g.row.B g.row.C) (escaped_exact g.row.A g.row.B g.row.C) c.args.reader.now c.added_up.new.reader (Ok c.in-Ok.value) (whole_ok short_at (summed g.row.A g.row.B g.row.C) c.args.reader.now c.added_up.new.reader c.in-Ok.value c.in-Ok.ensures) tt

pub returns-in-Err-clause-reads : goal.returns-in-Err-clause-reads
returns-in-Err-clause-reads g c =
    let gives = whole_err short_at (summed g.row.A g.row.B g.row.C) c.args.reader.now c.added_up.new.reader _ c.in-Err.ensures in
    refused (escaped g.row.A g.row.B g.row.C) (escaped_exact g.row.A g.row.B g.row.C) c.args.reader.now c.added_up.new.reader c.back_to.new.self _ _ gives c.back_to.ensures refl (omega arith) (omega arith)
