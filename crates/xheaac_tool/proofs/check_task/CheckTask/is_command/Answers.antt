use Rattle.xheaac_tool.proofs.Growing.{check_command}
use Rattle.xheaac_tool.proofs.check_task.CheckTask.is_command.Goals as goal

pub returns-clause-command : goal.returns-clause-command
returns-clause-command g c = λ at. check_command
