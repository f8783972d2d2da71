use Rattle.std.proofs.Common.{ℕ, inr, subst}
use Rattle.std.proofs.lemmas.Result.{on_ok_weaker, IfErr-weaker}
use Rattle.xheaac_tool.specs.Counting.{BreaksRule}
use Rattle.xheaac_tool.proofs.CheckSteps.{broken_is_judgement}
use Rattle.xheaac_tool.proofs.check_task.judge_unit.Goals as goal

pub returns-clause-ok : goal.returns-clause-ok
returns-clause-ok c = on_ok_weaker c.judge.result (λ keeps. (c.in_ok-frame.frame, c.in_ok-frame.ensures.reads, keeps)) c.judge.ensures.ok

pub returns-clause-err : goal.returns-clause-err
returns-clause-err c = IfErr-weaker c.judge.result _ _ (λ end bad. inr (c.in_ok-frame.frame, c.in_ok-frame.ensures.reads, subst (λ (n : ℕ). BreaksRule n c.args.config.now c.in_ok-frame.frame end) c.frame.ensures bad)) c.judge.ensures.err

pub returns-clause-judges : goal.returns-clause-judges
returns-clause-judges c = IfErr-weaker c.judge.result _ _ (λ end bad. broken_is_judgement c.frame.result c.args.config.now c.in_ok-frame.frame end bad) c.judge.ensures.err
