use Rattle.std.proofs.Common.{sym, ◌∙◌}
use Rattle.editing.specs.declared.strip.StripTargets.TheVariants.{All}
use Rattle.xheaac_tool.specs.StripWords.{strip_targets_of}
use Rattle.xheaac_tool.proofs.TargetLemmas.{no_targets, some_targets}
use Rattle.xheaac_tool.proofs.strip_words.StripWords.read.Goals as goal

pub returns-then-not-are_targets : goal.returns-then-not-are_targets
returns-then-not-are_targets c = no_targets (strip_targets_of c.args.word.now) (sym c.are_targets.ensures ∙ c.if-not-are_targets.true)

pub returns : goal.returns
returns c = some_targets All (strip_targets_of c.args.word.now) (sym c.are_targets.ensures ∙ c.if-not-are_targets.false)
