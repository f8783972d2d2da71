use Rattle.std.proofs.Common.{length}
use Rattle.loas.proofs.Reading.{SoFar}
use Rattle.loas.proofs.pieces.take_all.Given as goal

abbrev pub invariant-frames : goal.invariant-frames
invariant-frames l = record { so_far : SoFar l.initial.framer.framer l.framer.framer l.initial.frames.items l.frames.items }

abbrev pub decreases-frames : goal.decreases-frames
decreases-frames l = length l.framer.framer.held
