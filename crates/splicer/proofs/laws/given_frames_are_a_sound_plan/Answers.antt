use Rattle.splicer.proofs.SoFar.{gives_sound_plans_so_far}
use Rattle.splicer.proofs.laws.given_frames_are_a_sound_plan.Goals as goal

pub returns : goal.returns
returns c = gives_sound_plans_so_far
