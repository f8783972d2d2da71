use Rattle.usac_frame.specs.FrameExact.{part_of_each}
use Rattle.usac_frame.proofs.laws.frames_have_a_part_for_each_element.Goals as goal

pub returns : goal.returns
returns c = part_of_each
