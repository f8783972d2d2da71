use Rattle.playing.proofs.Taking.{takes_files_of_splices}
use Rattle.playing.proofs.laws.play_takes_splices_alone.Goals as goal

pub returns : goal.returns
returns g c = takes_files_of_splices g.C.Core.does c.sound_splices_converge.ensures c.refuses_no_splice.ensures c.takes_splices_alone.ensures c.cuts_each_frame.ensures
