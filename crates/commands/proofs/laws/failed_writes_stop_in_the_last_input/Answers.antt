use Rattle.commands.proofs.LastInput.{stops_in_the_last}
use Rattle.commands.proofs.laws.failed_writes_stop_in_the_last_input.Goals as goal

pub returns : goal.returns
returns g c = stops_in_the_last _ _ _
