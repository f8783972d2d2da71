use Rattle.std.proofs.Common.{rules}
use Rattle.std.proofs.lemmas.Result.{err_from_is_err_and}
use Rattle.au_stream.proofs.Pieces.{so_far-none, so_far-more, refused}
use Rattle.au_stream.proofs.frame_reader.FrameReader.next.Goals as goal

pub pieces-init : goal.pieces-init
pieces-init g c = record {
  so_far = so_far-none _ _;
  other = search rules;
  calm = search rules;
}

pub returns-in_err-refill-clause-takes : goal.returns-in_err-refill-clause-takes
returns-in_err-refill-clause-takes g c =
    let p = err_from_is_err_and c.from_residual.result c.from_residual.ensures.1 in
    rw (p.1, p.2) (refused _ _ _ _ _ _ _ _ c.pieces.invariant.so_far c.in-Part.ensures.stands c.in_err-refill.ensures.takes)

pub pieces-preserved : goal.pieces-preserved
pieces-preserved g c = record {
  so_far = so_far-more _ _ _ _ _ _ _ c.pieces.invariant.so_far c.in-Part.ensures.stands (rw c.if-not-branch.false at c.in_ok-refill.ensures.takes);
  other = search rules;
  calm = search rules;
}
