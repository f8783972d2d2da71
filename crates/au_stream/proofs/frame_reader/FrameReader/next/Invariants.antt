use Rattle.std.proofs.Common.{◌≡◌, ◌-◌}
use Rattle.au_stream.specs.declared.frame_reader.TheConstants.{LIMIT}
use Rattle.loas.specs.Framer.{pushed}
use Rattle.au_stream.specs.Taking.{SoFar, seen}
use Rattle.au_stream.proofs.frame_reader.FrameReader.next.Given as goal

abbrev pub invariant-pieces : goal.invariant-pieces
invariant-pieces g l =
    let source = g.S.Source in
    record {
      so_far : SoFar l.initial.self l.self (seen source.left source.faults l.initial.source) (seen source.left source.faults l.source);
      other : source.other l.source ≡ source.other l.initial.source;
      calm : source.calm l.initial.source → source.calm l.source;
    }

abbrev pub decreases-pieces : goal.decreases-pieces
decreases-pieces g l = LIMIT - pushed l.self
