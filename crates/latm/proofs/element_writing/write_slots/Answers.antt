use Rattle.std.proofs.lemmas.Result.{err_from_is_err_and}
use Rattle.std.proofs.Common.{◌∙◌}
use Rattle.latm.proofs.SlotWrites.{over_in}
use Rattle.latm.proofs.element_writing.write_slots.Goals as goal

pub returns-in_err-write_slot-clause-err : goal.returns-in_err-write_slot-clause-err
returns-in_err-write_slot-clause-err c =
    let p = err_from_is_err_and c.from_residual.result c.from_residual.ensures.1 in
    rw (p.1, p.2) (λ e. over_in c.args.slots.now c.loop-slot.slot-index c.as_slice.result.now _ c.loop-slot-test.true (c.as_slice.ensures ∙ c.slot-item.is) (c.in_err-write_slot.ensures.err e))
