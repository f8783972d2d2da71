use Rattle.usac_frame.specs.FrameFound.{frame_of_is}
use Rattle.preroll.proofs.units.read_unit.Goals as goal

pub returns-in-Ok-clause-found : goal.returns-in-Ok-clause-found
returns-in-Ok-clause-found c = frame_of_is.found c.args.config.now c.args.unit.now c.in-Ok.frame (record { fits = c.in-Ok.ensures.found.0; spelled = c.in-Ok.ensures.found.1 })
