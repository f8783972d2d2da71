use Rattle.std.proofs.Common.{◌≡◌, ◌++◌, length}
use Rattle.loas.specs.Pieces.{joined}
use Rattle.loas.proofs.tests.cut.Given as goal

abbrev pub invariant-pieces : goal.invariant-pieces
invariant-pieces l = record { whole : joined l.pieces.items ++ l.rest ≡ l.bytes }

abbrev pub decreases-pieces : goal.decreases-pieces
decreases-pieces l = length l.rest
