use Rattle.std.proofs.Common.{◌≡◌, ◌-◌}
use Rattle.au_stream.specs.Script.{most_bytes}
use Rattle.au_stream.specs.Taking.{seen}
use Rattle.au_stream.proofs.Gathering.{Gathers}
use Rattle.au_stream.proofs.whole.read_stream.Given as goal

abbrev pub invariant-frames : goal.invariant-frames
invariant-frames g l =
    let source = g.S.Source in
    record {
      gathers : Gathers (seen source.left source.faults l.initial.source) (seen source.left source.faults l.source) l.gathered l.frames;
      faults : source.faults l.source ≡ source.faults l.initial.source;
      other : source.other l.source ≡ source.other l.initial.source;
      calm : source.calm l.initial.source → source.calm l.source;
    }

abbrev pub decreases-frames : goal.decreases-frames
decreases-frames g l = most_bytes - l.frames.passed
