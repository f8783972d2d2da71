use Rattle.std.specs.Option.{option_copied}
use Rattle.std.proofs.lemmas.Result.{err_from_is_err_and}
use Rattle.latm.proofs.PlaceLemmas.{body_found, body_lacks_slots, body_lacks_other}
use Rattle.latm.proofs.places.find_body.Goals as goal

pub returns : goal.returns
returns c =
    let n = c.counts-count in
    body_found (option_copied c.args.config) c.args.reader.now c.find_slots.new.reader c.pass_bits.new.reader c.in_ok-slots.slots n.result.0 n.result.1 n.ensures.slots n.ensures.bits c.in_ok-slots.ensures.gives c.in_ok-pass_bits.ensures c.in_ok-slots.ensures.within

pub returns-in_err-slots : goal.returns-in_err-slots
returns-in_err-slots c =
    let n = c.counts-count in
    let p = err_from_is_err_and c.from_residual.result c.from_residual.ensures.1 in
    rw (p.1, p.2) (body_lacks_slots (option_copied c.args.config) c.args.reader.now c.find_slots.new.reader c.in_err-slots.field-0.0 n.result.0 n.ensures.slots c.in_err-slots.ensures.gives)

pub returns-in_err-pass_bits : goal.returns-in_err-pass_bits
returns-in_err-pass_bits c =
    let n = c.counts-count in
    let p = err_from_is_err_and c.from_residual-in_err-pass_bits.result c.from_residual-in_err-pass_bits.ensures.1 in
    rw (p.1, p.2) (body_lacks_other (option_copied c.args.config) c.args.reader.now c.find_slots.new.reader c.pass_bits.new.reader c.in_ok-slots.slots c.in_err-pass_bits.field-0.0 n.result.0 n.result.1 n.ensures.slots n.ensures.bits c.in_ok-slots.ensures.gives c.in_err-pass_bits.ensures)
