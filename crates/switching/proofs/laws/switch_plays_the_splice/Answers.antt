use Rattle.switching.proofs.SplicePlayed.{plays_the_splice}
use Rattle.switching.proofs.laws.switch_plays_the_splice.Goals as goal

pub returns : goal.returns
returns g c = plays_the_splice g.C.Core.does c.spliced_files_carry_the_splice.ensures c.play_takes_splices_alone.ensures c.switch_plays_before_events.ensures
