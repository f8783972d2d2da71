use Rattle.joining.proofs.PlanSteps.{rendition_next}
use Rattle.joining.proofs.splice_task.SpliceTask.turn.Goals as goal

pub returns : goal.returns
returns g c = λ at frames ready st. record { rendition = rendition_next at frames _ _ st.rendition c.go_on.ensures.run c.go_on.ensures.positions c.go_on.ensures.place }
