use Rattle.switch_player.specs.SegmentedFound.{plays_segments}
use Rattle.switch_player.proofs.laws.segments_are_played.Goals as goal

pub returns : goal.returns
returns g c = plays_segments g.C.Core.does
