use Rattle.std.proofs.Common.{◌≡◌, ◌++◌, length}
use Rattle.stream_edit.proofs.editor.Editor.into_stream.Given as goal

abbrev pub decreases-loop-elements : goal.decreases-loop-elements
decreases-loop-elements g l = length l.editor

abbrev pub invariant-loop-elements : goal.invariant-loop-elements
invariant-loop-elements g l = l.elements ++ l.editor ≡ l.fn.self
