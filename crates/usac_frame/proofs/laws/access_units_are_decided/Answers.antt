use Rattle.usac_frame.specs.FrameExact.{decided}
use Rattle.usac_frame.proofs.laws.access_units_are_decided.Goals as goal

pub returns : goal.returns
returns c = decided
