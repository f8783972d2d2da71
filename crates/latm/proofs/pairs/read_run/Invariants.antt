use Rattle.std.proofs.Common.{◌≡◌, length}
use Rattle.layout.specs.Reader.{left}
use Rattle.latm.proofs.RunSteps.{SoFar}
use Rattle.latm.proofs.pairs.read_run.Given as goal

abbrev pub invariant-pairs : goal.invariant-pairs
invariant-pairs l = record {
  so_far : SoFar l.initial.reader l.reader l.count l.bits;
  start : l.start ≡ l.initial.reader.at;
}

abbrev pub decreases-pairs : goal.decreases-pairs
decreases-pairs l = length (left l.reader)
