use Rattle.std.proofs.Common.{sym, ap, ◌∙◌}
use Rattle.timeline.specs.Order.{order_result}
use Rattle.joining.proofs.Calls.{splice_refused_called, splice_ordered_called}
use Rattle.joining.proofs.spliced.splice_files.Goals as goal

pub returns-in-Err : goal.returns-in-Err
returns-in-Err g c =
    let judged = c.check_positions.ensures.judged ∙ ap order_result c.deref.ensures.value in
    splice_refused_called g.C.Core.does c.args.positions.items _ _ c.in-Err.fault _ (sym c.in-Err.is ∙ judged) c.refused_positions.ensures

pub returns : goal.returns
returns g c =
    let judged = c.check_positions.ensures.judged ∙ ap order_result c.deref.ensures.value in
    splice_ordered_called g.C.Core.does c.args.positions.items _ _ _ _ _ (sym c.in_default.is ∙ judged) c.new.ensures.rendition.positions c.run_files.ensures
