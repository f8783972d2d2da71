use Rattle.std.proofs.Common.{refl, arith, rules}
use Rattle.std.proofs.lemmas.Grind.{common_steps}
use Rattle.std.proofs.lemmas.Result.{err_from_is_err_and}
use Rattle.preroll.proofs.Configs.{is_in, more_behind, is_none}
use Rattle.preroll.proofs.carrying.read_config.Goals as goal

pub returns-in_err-own-clause-bad : goal.returns-in_err-own-clause-bad
returns-in_err-own-clause-bad c =
    let p = err_from_is_err_and c.from_residual.result c.from_residual.ensures.1 in
    rw (p.1, p.2) (is_none c.args.bytes.now c.new-reader.result c.read.new.reader c.in_err-own.field-0.0 c.in_err-own.ensures.reads c.new-reader.ensures)

pub returns-then-has_byte_left-clause-bad : goal.returns-then-has_byte_left-clause-bad
returns-then-has_byte_left-clause-bad c h = (refl, λ d i. more_behind c.args.bytes.now c.new-reader.result c.read.new.reader c.in_ok-own.own d c.in_ok-own.ensures.reads c.new-reader.ensures (c.if-has_byte_left.ensures.0 (search rules)) i)

pub returns-clause-found : goal.returns-clause-found
returns-clause-found c = is_in c.args.bytes.now c.new-reader.result c.read.new.reader c.in_ok-own.own c.in_ok-own.ensures.reads c.new-reader.ensures (grind (arith, common_steps))
