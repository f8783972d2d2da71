use Rattle.std.proofs.Common.{List, ℕ, sym, ap, subst, ◌∙◌}
use Rattle.std.proofs.lemmas.Result.{on_err_weaker}
use Rattle.commands.specs.Handing.{WroteLess}
use Rattle.xheaac_tool.specs.Showing.{payload_lines}
use Rattle.commands.proofs.Handing.{less_part}
use Rattle.xheaac_tool.proofs.Lines.{preroll_all, on_failed}
use Rattle.xheaac_tool.proofs.show_task.give_preroll.Goals as goal

pub returns-clause-err : goal.returns-clause-err
returns-clause-err g c =
    let text = preroll_all c.args.config.now c.args.frame.now c.as_slice.result.now (sym c.if-not-is_immediate.ensures) (c.as_slice.ensures ∙ c.in-Ok.ensures ∙ ap payload_lines c.first_payload.ensures) in
    on_err_weaker c.give_lines.result (λ less. less_part _ _ _ (subst (λ (x : List ℕ). WroteLess (g.K.Sink.written c.args.out.now) (g.K.Sink.written c.give_lines.new.out) x) text less)) c.give_lines.ensures.err

pub returns-clause-failed : goal.returns-clause-failed
returns-clause-failed g c = λ failed.
    let text = preroll_all c.args.config.now c.args.frame.now c.as_slice.result.now (sym c.if-not-is_immediate.ensures) (c.as_slice.ensures ∙ c.in-Ok.ensures ∙ ap payload_lines c.first_payload.ensures) in
    subst (λ (x : List ℕ). WroteLess (g.K.Sink.written c.args.out.now) (g.K.Sink.written c.give_lines.new.out) x) text (on_failed c.give_lines.result _ c.give_lines.ensures.err failed)
