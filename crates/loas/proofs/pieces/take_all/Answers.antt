use Rattle.loas.proofs.Reading.{so_far-more}
use Rattle.loas.proofs.pieces.take_all.Goals as goal

pub frames-preserved : goal.frames-preserved
frames-preserved c =
    let takes = rw c.in-Ok-Some.field-0-is at c.in-Ok-Some.ensures.takes in
    record { so_far = rw c.in_ok-push-in-Ok-Some.ensures.items (so_far-more _ c.frames.framer.framer _ _ c.frames.frames.items c.in-Ok-Some.frame c.frames.invariant.so_far takes) }
