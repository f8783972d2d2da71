use Rattle.std.proofs.Common.{refl, None}
use Rattle.commands.proofs.Going.{close_caused}
use Rattle.commands.proofs.WholeSteps.{whole_given, whole_unread}
use Rattle.commands.proofs.whole.WholeInputInput.run.Goals as goal

pub returns-in-Ok-clause-does : goal.returns-in-Ok-clause-does
returns-in-Ok-clause-does g c =
    whole_given (g.W.Whole.command c.args.self.now.0) _ _ c.in-Ok.stream _ _ _ c.give.result _ c.in-Ok.ensures.reads c.give.ensures.gives c.closed_by.ensures

pub returns-in-Ok-clause-caused : goal.returns-in-Ok-clause-caused
returns-in-Ok-clause-caused g c = close_caused None _ _ _ _ _ _ _ c.give.result _ c.in-Ok.ensures.caused refl refl (c.give.ensures.caused _) c.closed_by.ensures

pub returns-in-Err-clause-does : goal.returns-in-Err-clause-does
returns-in-Err-clause-does g c = whole_unread (g.W.Whole.command c.args.self.now.0) _ _ c.in-Err.fault _ _ _ c.in-Err.ensures.reads c.ended_by.ensures
