use Rattle.std.proofs.Common.{◌≡◌, false, ◌≤◌, []}
use Rattle.au_stream.specs.Giving.{weight}
use Rattle.au_stream.specs.Script.{most_bytes}
use Rattle.commands.specs.Doing.{GoesOn}
use Rattle.commands.proofs.frames.run_source.Given as goal

abbrev pub invariant-frames : goal.invariant-frames
invariant-frames g l =
    let task = g.T.Task in
    let source = g.S.Source in
    let sink = g.K.Sink in
    let core = g.C.Core in
    record {
      so_far : (at : task.At) → task.Stands core.does at [] l.initial.task (core.meaning l.initial.core).ready →
          GoesOn (task.command at core.does) (λ frames. task.Stands core.does at frames l.task (core.meaning l.core).ready) (core.meaning l.initial.core) (core.meaning l.core) (source.left l.initial.source) (source.left l.source)
          (sink.written l.initial.out) (sink.written l.out) l.reader;
      few : l.reader.count ≤ most_bytes;
      source_faults : source.faults l.source ≡ source.faults l.initial.source;
      out_faults : sink.faults l.out ≡ sink.faults l.initial.out;
      core_faults : (core.meaning l.core).faults ≡ (core.meaning l.initial.core).faults;
      other : source.other l.source ≡ source.other l.initial.source;
      calm_source : source.calm l.initial.source → source.calm l.source;
      calm_out : sink.calm l.initial.out → sink.calm l.out;
      calm_core : core.IsCalm l.initial.core → core.IsCalm l.core;
      untouched : task.plays ≡ false → l.core ≡ l.initial.core;
    }

abbrev pub decreases-frames : goal.decreases-frames
decreases-frames g l = weight l.reader
