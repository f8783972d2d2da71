use Rattle.std.proofs.lemmas.Result.{err_from_is_err_and}
use Rattle.xheaac_tool.proofs.Lines.{part_of_line}
use Rattle.xheaac_tool.proofs.show_task.give_lines.Goals as goal

pub returns-in_err-give_all-clause-err : goal.returns-in_err-give_all-clause-err
returns-in_err-give_all-clause-err g c =
    let p = err_from_is_err_and c.from_residual.result c.from_residual.ensures.1 in
    rw p.1 (part_of_line _ _ _ c.args.lines.now c.loop-line.line-index c.line-item.result c.as_slice.result.now c.loop-line-test.true c.line-item.is c.as_slice.ensures c.loop-line.invariant.written c.in_err-give_all.ensures.err)
