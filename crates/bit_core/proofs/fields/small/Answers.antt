use Rattle.std.proofs.Common.{Ok, Err}
use Rattle.std.proofs.lemmas.Result.{err_from_is_err_and}
use Rattle.layout.proofs.Layouts.{reads_by}
use Rattle.bit_core.specs.Plain.{bits}
use Rattle.bit_core.proofs.PlainFacts.{bits-exact}
use Rattle.bit_core.proofs.fields.small.Goals as goal

pub returns-clause-reads : goal.returns-clause-reads
returns-clause-reads c = reads_by (bits c.args.n) (bits-exact c.args.n) c.args.reader.now c.take.new.self (Ok c.in_ok-value.value) c.in_ok-value.ensures.exact tt

pub returns-in_err-value-clause-reads : goal.returns-in_err-value-clause-reads
returns-in_err-value-clause-reads c =
    let p = err_from_is_err_and c.from_residual.result c.from_residual.ensures.1 in
    rw (p.1, p.2) (reads_by (bits c.args.n) (bits-exact c.args.n) c.args.reader.now c.take.new.self (Err c.in_err-value.field-0.0) c.in_err-value.ensures.exact c.in_err-value.ensures.err)
