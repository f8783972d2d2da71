use Rattle.switching.proofs.SwitchSteps.{switch_command}
use Rattle.switching.proofs.switch_task.SwitchTask.is_command.Goals as goal

pub returns-clause-command : goal.returns-clause-command
returns-clause-command g c = λ at. switch_command g.C.Core.does at
