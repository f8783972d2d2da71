use Rattle.std.proofs.Common.{take}
use Rattle.loas.specs.Pieces.{joined}
use Rattle.loas.proofs.Reading.{IsReadSoFar}
use Rattle.loas.proofs.pieces.frames_of.Given as goal

abbrev pub invariant-loop-piece : goal.invariant-loop-piece
invariant-loop-piece l = record { read : IsReadSoFar (joined (take l.piece-index l.pieces)) l.framer.framer l.frames.items }
