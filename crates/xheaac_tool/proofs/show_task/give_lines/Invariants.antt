use Rattle.std.proofs.Common.{◌≡◌, take}
use Rattle.std.specs.Io.KnownBytes.{append_known}
use Rattle.xheaac_tool.specs.Showing.{joined}
use Rattle.xheaac_tool.proofs.show_task.give_lines.Given as goal

abbrev pub invariant-loop-line : goal.invariant-loop-line
invariant-loop-line g l =
    let sink = g.K.Sink in
    record {
      written : sink.written l.out ≡ append_known (sink.written l.initial.out) (joined (take l.line-index l.lines));
      faults : sink.faults l.out ≡ sink.faults l.initial.out;
      calm : sink.calm l.initial.out → sink.calm l.out;
    }
