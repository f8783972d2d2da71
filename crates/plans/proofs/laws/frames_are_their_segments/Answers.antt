use Rattle.plans.specs.SegmentsFound.{are_their_segments}
use Rattle.plans.proofs.laws.frames_are_their_segments.Goals as goal

pub returns : goal.returns
returns c = are_their_segments
