use Rattle.usac_frame.specs.FrameExact.{split_at_preroll}
use Rattle.usac_frame.proofs.laws.frames_are_split_at_the_preroll.Goals as goal

pub returns : goal.returns
returns c = split_at_preroll
