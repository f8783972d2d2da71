use Rattle.usac_frame.specs.FrameExact.{payload_small}
use Rattle.usac_frame.proofs.laws.payloads_are_small.Goals as goal

pub returns : goal.returns
returns c = payload_small
