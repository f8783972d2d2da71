use Rattle.std.proofs.Common.{sym, ap, ◌∙◌}
use Rattle.xheaac_tool.specs.Words.{texts, case_of}
use Rattle.xheaac_tool.proofs.top.run_line.Goals as goal

-- the words are those of the list that was handed on
pub returns-in-Ok-clause-promises : goal.returns-in-Ok-clause-promises
returns-in-Ok-clause-promises g c =
    let same = ap (λ words. case_of (texts words)) c.deref.ensures.value in
    let promises = c.run.ensures.promises in
    rw c.in-Ok.is
    (record {
      splices = λ file text asked well. promises.splices file text (same ∙ asked) well;
      starts = λ file text frame asked well. promises.starts file text frame (same ∙ asked) well;
      plans = λ pieces files asked held. promises.plans pieces files (same ∙ asked) held;
      joins = λ pieces files asked held. promises.joins pieces files (same ∙ asked) held;
      programmes = λ pieces files asked held. promises.programmes pieces files (same ∙ asked) held;
    })

pub returns-in-Ok-clause-answers : goal.returns-in-Ok-clause-answers
returns-in-Ok-clause-answers g c = rw (c.in-Ok.is, sym c.deref.ensures.value) c.run.ensures.answers
