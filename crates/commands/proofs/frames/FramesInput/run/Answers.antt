use Rattle.std.proofs.Common.{sym, ◌∙◌}
use Rattle.commands.proofs.Going.{let_go}
use Rattle.commands.proofs.frames.FramesInput.run.Goals as goal

pub returns-clause-does : goal.returns-clause-does
returns-clause-does g c = let_go _ _ _ _ _ _ (c.run_source.ensures.does _ c.requires.ready)

pub returns-clause-untouched : goal.returns-clause-untouched
returns-clause-untouched g c = λ unused. c.run_source.ensures.untouched (sym (c.is_command.ensures.plays _) ∙ unused)

pub returns-clause-no_core : goal.returns-clause-no_core
returns-clause-no_core g c = λ unused. c.run_source.ensures.no_core (sym (c.is_command.ensures.plays _) ∙ unused)
