use Rattle.joining.proofs.NoEvent.{no_event_is_a_plan}
use Rattle.joining.proofs.laws.no_event_is_a_sound_plan.Goals as goal

pub returns : goal.returns
returns c = no_event_is_a_plan c.orders_are_judged.ensures c.sound_plans_are_given.ensures
