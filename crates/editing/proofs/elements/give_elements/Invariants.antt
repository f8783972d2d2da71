use Rattle.std.proofs.Common.{◌≡◌, length}
use Rattle.commands.specs.Handing.{HandedOver}
use Rattle.editing.specs.Runs.{run_of}
use Rattle.editing.proofs.elements.give_elements.Given as goal

-- What was written and what is still to be given are the whole.
abbrev pub invariant-loop-editor : goal.invariant-loop-editor
invariant-loop-editor g l =
    let sink = g.K.Sink in
    record {
      so_far : HandedOver (sink.written l.initial.out) (sink.written l.out) (run_of l.initial.editor) (run_of l.editor);
      faults : sink.faults l.out ≡ sink.faults l.initial.out;
      calm : sink.calm l.initial.out → sink.calm l.out;
    }

abbrev pub decreases-loop-editor : goal.decreases-loop-editor
decreases-loop-editor g l = length l.editor
