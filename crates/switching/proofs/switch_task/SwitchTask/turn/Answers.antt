use Rattle.std.proofs.Common.{◌∙◌}
use Rattle.joining.proofs.PlanSteps.{rendition_next}
use Rattle.switching.proofs.NextPiece.{less_there, player_next, follows_next}
use Rattle.switching.proofs.switch_task.SwitchTask.turn.Goals as goal

pub returns : goal.returns
returns g c = λ at frames ready st.
    let next = rendition_next at.piece frames _ _ st.rendition c.go_on.ensures.run c.go_on.ensures.positions c.go_on.ensures.place in
    record {
      rendition = next;
      player = player_next g.C.Core.does at frames c.args.self.now.frames.player ready st.player;
      planned = λ follows.
          follows_next g.C.Core.does at frames c.args.self.now ready st c.end-piece.result c.end-piece.ensures (c.follows_on-self.ensures.follows follows) (c.follows_on-self.ensures.whole follows)
          (less_there _ _ _ _ (c.number-number.ensures ∙ st.rendition.place) (c.number.ensures ∙ next.place) (c.follows_on-self.ensures.further follows));
    }
