use Rattle.joining.proofs.NoLongFrame.{no_stop_is_a_plan}
use Rattle.joining.proofs.laws.no_stop_is_a_sound_plan.Goals as goal

pub returns : goal.returns
returns c = no_stop_is_a_plan c.no_event_is_a_sound_plan.ensures c.sound_plans_are_given.ensures c.sound_pieces_are_given.ensures
