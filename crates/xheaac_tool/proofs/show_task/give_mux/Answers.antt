use Rattle.std.proofs.Common.{◌∙◌}
use Rattle.std.proofs.lemmas.Result.{on_ok_weaker, on_err_weaker}
use Rattle.xheaac_tool.proofs.Lines.{lines_all, lines_part}
use Rattle.xheaac_tool.proofs.show_task.give_mux.Goals as goal

pub returns-clause-ok : goal.returns-clause-ok
returns-clause-ok g c = rw c.if-not-opens.false (on_ok_weaker c.give_lines.result (lines_all (g.K.Sink.written c.args.out.now) (g.K.Sink.written c.give_lines.new.out) c.args.mux.now c.as_slice.result.now (c.as_slice.ensures ∙ c.in-Ok.ensures)) c.give_lines.ensures.ok)

pub returns-clause-err : goal.returns-clause-err
returns-clause-err g c = rw c.if-not-opens.false (on_err_weaker c.give_lines.result (lines_part (g.K.Sink.written c.args.out.now) (g.K.Sink.written c.give_lines.new.out) c.args.mux.now c.as_slice.result.now (c.as_slice.ensures ∙ c.in-Ok.ensures)) c.give_lines.ensures.err)
