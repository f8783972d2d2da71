use Rattle.usac_frame.specs.FrameFound.{frame_of_is}
use Rattle.usac_frame.proofs.laws.access_units_are_their_frames.Goals as goal

pub returns : goal.returns
returns c = frame_of_is
