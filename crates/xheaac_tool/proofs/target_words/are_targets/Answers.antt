use Rattle.std.proofs.Common.{false, ◌∙◌}
use Rattle.std.specs.Prelude.{codes}
use Rattle.std.proofs.lemmas.Str.Pattern.{starts_text}
use Rattle.xheaac_tool.proofs.TargetLemmas.{without_every}
use Rattle.xheaac_tool.proofs.target_words.are_targets.Goals as goal

pub returns-in-None : goal.returns-in-None
returns-in-None c =
    let word = c.args.word.now in
    c.are_numbers.ensures ∙ without_every word (starts_text false (codes "every:") word c.in-None.ensures.cases)
