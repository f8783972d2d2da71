-- A target has the unit that it had.
use Rattle.std.proofs.Common.{sym, ◌∙◌}
use Rattle.ipf_frame.specs.Frames.{new_part}
use Rattle.ipf_frame.specs.Laws.{KeepsUnit}
use Rattle.ipf_frame.proofs.WrittenFrames.{written, unit_is}
use Rattle.ipf_frame.proofs.NewParts.{new_fits}

pub keeps_unit : KeepsUnit
keeps_unit c fade aus au new declared t =
    let w = written c t.frame (new_part t.payload) new declared t.is.fits (new_fits t.payload t.few t.bytes) t.text in
    w.unit ∙ sym (unit_is c au t.frame t.is)
