use Rattle.playing.proofs.Growing.{play_command}
use Rattle.playing.proofs.play_task.PlayTask.is_command.Goals as goal

pub returns-clause-command : goal.returns-clause-command
returns-clause-command g c = λ at. play_command g.C.Core.does at
