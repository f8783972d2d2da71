use Rattle.stream_edit.proofs.Standing.{stands}
use Rattle.stream_edit.proofs.editor.Editor.new.Goals as goal

pub invariant_of-result : goal.invariant_of-result
invariant_of-result g c = stands (g.C.Change.new c.args.change) (g.C.Change.May c.args.change) c.args.targets.now c.args.stream.now c.as_slice.result.now c.as_slice.ensures c.requires.stream c.requires.rising c.requires.may c.requires.writable
