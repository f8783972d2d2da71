use Rattle.std.proofs.Common.{[], ◌∷◌, ◌++◌, List, ℕ, refl, sym, ap, ◌∙◌}
use Rattle.std.proofs.lemmas.Result.{IfOk-weaker}
use Rattle.xheaac_tool.proofs.Lines.{payload_good, payload_bad}
use Rattle.xheaac_tool.proofs.show_task.payload_lines.Goals as goal

pub returns-in-Ok : goal.returns-in-Ok
returns-in-Ok c = IfOk-weaker c.preroll_lines.result _ _ (λ lines e. e ∙ sym (payload_good c.args.payload.now c.in-Ok.preroll c.in-Ok.ensures.found.0 c.in-Ok.ensures.found.1)) c.preroll_lines.ensures

pub returns-in_ok-push-in-Err-Short : goal.returns-in_ok-push-in-Err-Short
returns-in_ok-push-in-Err-Short c =
    let bad = (rw c.in-Err-Short.field-0-is at c.in-Err-Short.ensures.fault) refl in
    c.in_ok-push-in-Err-Short.ensures.ok ∙ ap (λ (lines : List (List ℕ)). lines ++ c.in_ok-line-in-Err-Short.line ∷ []) c.new-lines.ensures ∙ ap (λ (line : List ℕ). line ∷ []) c.in_ok-line-in-Err-Short.ensures
    ∙ sym (payload_bad c.args.payload.now c.in-Err-Short.at bad)
