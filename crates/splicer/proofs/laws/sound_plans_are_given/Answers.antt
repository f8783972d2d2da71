use Rattle.splicer.proofs.Plans.{give_sound_plans}
use Rattle.splicer.proofs.laws.sound_plans_are_given.Goals as goal

pub returns : goal.returns
returns c = give_sound_plans
