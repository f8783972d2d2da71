use Rattle.std.proofs.Common.{subst, sym, ◌++◌}
use Rattle.std.proofs.lemmas.List.{append-nil}
use Rattle.playing.specs.Standing.{PlayerStands}
use Rattle.playing.proofs.play_task.PlayTask.turn.Goals as goal

pub returns : goal.returns
returns g c = λ at frames ready st. subst (λ x. PlayerStands g.C.Core.does x c.args.self.now.frames.player ready) (sym (append-nil (at ++ frames))) st
