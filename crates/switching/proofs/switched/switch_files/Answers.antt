use Rattle.std.proofs.Common.{ℕ, sym, ap, subst, ◌<◌, length, ◌∙◌}
use Rattle.timeline.specs.Order.{order_result}
use Rattle.joining.proofs.Calls.{order_refused, order_kept}
use Rattle.switching.proofs.Calls.{switched, begins}
use Rattle.switching.proofs.switched.switch_files.Goals as goal

pub returns-in-Err : goal.returns-in-Err
returns-in-Err g c =
    let judged = c.check_positions.ensures.judged ∙ ap order_result c.deref.ensures.value in
    order_refused (switched g.C.Core.does c.args.positions.items) c.args.positions.items _ _ c.in-Err.fault _ (sym c.in-Err.is ∙ judged) c.refused_positions.ensures

pub run_files-requires-clause-ready : goal.run_files-requires-clause-ready
run_files-requires-clause-ready g c =
    let judged = c.check_positions.ensures.judged ∙ ap order_result c.deref.ensures.value in
    let some : 0 < length c.args.positions.items = subst (λ (n : ℕ). 0 < n) (sym c.requires.each) c.requires.some in
    begins g.C.Core.does c.args.positions.items _ c.new.result _ (sym c.in_default.is ∙ judged) c.new.ensures.rendition.positions some c.new.ensures.rendition c.new.ensures.player

pub returns : goal.returns
returns g c =
    let judged = c.check_positions.ensures.judged ∙ ap order_result c.deref.ensures.value in
    order_kept (switched g.C.Core.does) c.args.positions.items _ _ _ _ _ (sym c.in_default.is ∙ judged) c.new.ensures.rendition.positions c.run_files.ensures
