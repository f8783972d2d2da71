use Rattle.bit_core.proofs.Across.{across}
use Rattle.bit_core.proofs.slices.byte_across.Goals as goal

pub returns : goal.returns
returns c = across c.args.first c.args.second c.args.skipped c.requires.within c.ranges.second.fits
