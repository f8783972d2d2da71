use Rattle.std.proofs.Common.{◌≡◌, take}
use Rattle.std.specs.Prelude.{map}
use Rattle.usac_frame.specs.Units.{unit_of}
use Rattle.preroll.proofs.units.units_of.Given as goal

abbrev pub invariant-loop-frame : goal.invariant-loop-frame
invariant-loop-frame l = l.units ≡ map (unit_of l.config) (take l.frame-index l.frames)
