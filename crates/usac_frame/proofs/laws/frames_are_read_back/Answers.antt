use Rattle.usac_frame.specs.FrameExact.{read_back}
use Rattle.usac_frame.proofs.laws.frames_are_read_back.Goals as goal

pub returns : goal.returns
returns c = read_back
