use Rattle.std.proofs.Common.{refl, length}
use Rattle.std.proofs.lemmas.Result.{err_from_is_err_and}
use Rattle.layout.specs.Reader.{left}
use Rattle.latm.specs.Faults.{from_short}
use Rattle.latm.proofs.PlaceLemmas.{enough, passes_bits, lacks_bits}
use Rattle.latm.proofs.places.pass_bits.Goals as goal

pub returns : goal.returns
returns c =
    passes_bits c.args.n c.from.result c.args.reader.now c.skip.new.self c.from.ensures (enough c.skip.result c.in_ok-skip.field-0 (length (left c.args.reader.now)) c.from.result c.in_ok-skip.was c.skip.ensures.short) c.in_ok-skip.ensures.ok

pub returns-in_err-skip : goal.returns-in_err-skip
returns-in_err-skip c =
    let p = err_from_is_err_and c.from_residual.result c.from_residual.ensures.1 in
    let e = c.in_err-skip.ensures in
    rw (p.1, p.2) (lacks_bits c.args.n c.from.result c.args.reader.now c.skip.new.self c.in_err-skip.field-0.0 (from_short c.in_err-skip.field-0.0) c.from.ensures (e.short.0 refl) e.fault e.err refl)
