use Rattle.commands.proofs.Rans.{notes_of, same_notes}
use Rattle.commands.proofs.note.finish.Goals as goal

pub returns : goal.returns
returns g c = record {
  ended = c.settle-ended.result;
  flushed = c.settle-ended.ensures;
  reported = c.tell.ensures.reports;
  quiet = λ e. (c.tell.ensures.done e).0;
  noted = notes_of _ c.settle-ended.result _ (λ e. same_notes g.N.Sink _ _ (c.tell.ensures.done e).1) c.tell.ensures.reports;
}
