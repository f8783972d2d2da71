use Rattle.std.proofs.Common.{◌<◌, length}
use Rattle.outside.proofs.tests.check_reads.Given as goal

abbrev pub invariant-loop-want : goal.invariant-loop-want
invariant-loop-want g l = l.id < length l.shelf.begun
