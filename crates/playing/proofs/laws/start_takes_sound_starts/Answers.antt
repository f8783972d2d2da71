use Rattle.playing.proofs.StartsTaken.{takes_sound_starts}
use Rattle.playing.proofs.laws.start_takes_sound_starts.Goals as goal

pub returns : goal.returns
returns g c = takes_sound_starts g.C.Core.does c.sound_splices_converge.ensures c.refuses_no_splice.ensures c.starts_soundly.ensures
