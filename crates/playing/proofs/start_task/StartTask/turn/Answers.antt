use Rattle.std.proofs.Common.{refl}
use Rattle.playing.proofs.StartSteps.{stands_new}
use Rattle.playing.proofs.start_task.StartTask.turn.Goals as goal

pub returns : goal.returns
returns g c = λ at frames ready st. record { first_is = st.first_is; count = refl; player = stands_new g.C.Core.does at _ ready c.begin_anew.ensures }
