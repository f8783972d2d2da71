use Rattle.std.proofs.Common.{◌≡◌, take, Some}
use Rattle.std.specs.Prelude.{map}
use Rattle.usac_frame.specs.AccessUnit.{frame_of}
use Rattle.preroll.proofs.units.read_units.Given as goal

abbrev pub invariant-loop-k : goal.invariant-loop-k
invariant-loop-k l = map (frame_of l.config) (take l.k l.units) ≡ map Some l.frames
