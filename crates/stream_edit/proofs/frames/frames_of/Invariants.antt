use Rattle.std.proofs.Common.{◌≡◌, ◌++◌, drop}
use Rattle.std.specs.Option.{option_copied}
use Rattle.latm.specs.Stream.{slots_from, frames_of}
use Rattle.stream_edit.specs.Frames.{pairs_of}
use Rattle.stream_edit.proofs.frames.frames_of.Given as goal

abbrev pub invariant-loop-element : goal.invariant-loop-element
invariant-loop-element l = pairs_of l.frames.items ++ slots_from (option_copied l.in_force) (drop l.element-index l.fn.stream.elements) ≡ frames_of l.fn.stream
