use Rattle.std.proofs.Common.{◌≡◌, ◌+◌, length, drop}
use Rattle.std.specs.Option.{option_copied}
use Rattle.latm.specs.Stream.{slots_from, frames_of}
use Rattle.latm.proofs.stream.Stream.frames.Given as goal

abbrev pub invariant-loop-element : goal.invariant-loop-element
invariant-loop-element l = l.frames + length (slots_from (option_copied l.in_force) (drop l.element-index l.element-items)) ≡ length (frames_of l.fn.self)
