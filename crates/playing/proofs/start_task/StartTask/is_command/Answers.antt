use Rattle.playing.proofs.StartSteps.{start_command}
use Rattle.playing.proofs.start_task.StartTask.is_command.Goals as goal

pub returns-clause-command : goal.returns-clause-command
returns-clause-command g c = λ at. start_command g.C.Core.does at
