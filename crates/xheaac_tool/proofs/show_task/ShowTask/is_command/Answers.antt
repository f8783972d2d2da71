use Rattle.xheaac_tool.proofs.Growing.{show_command}
use Rattle.xheaac_tool.proofs.show_task.ShowTask.is_command.Goals as goal

pub returns-clause-command : goal.returns-clause-command
returns-clause-command g c = λ at. show_command
