use Rattle.std.proofs.Common.{◌≡◌, drop}
use Rattle.std.specs.Prelude.{slice_get}
use Rattle.std.specs.Option.{option_copied}
use Rattle.latm.specs.Stream.{slots_from, frames_of}
use Rattle.latm.proofs.stream.Stream.find.Given as goal

abbrev pub invariant-loop-element : goal.invariant-loop-element
invariant-loop-element l = slice_get (slots_from (option_copied l.in_force) (drop l.element-index l.element-items)) l.rest ≡ slice_get (frames_of l.fn.self) l.fn.frame
