use Rattle.usac_frame.specs.FrameExact.{spelled_once}
use Rattle.usac_frame.proofs.laws.frames_are_spelled_once.Goals as goal

pub returns : goal.returns
returns c = spelled_once
