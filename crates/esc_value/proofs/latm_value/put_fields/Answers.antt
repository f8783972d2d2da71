use Rattle.esc_value.specs.LatmExact.{power}
use Rattle.esc_value.proofs.latm_value.put_fields.Goals as goal

pub put-requires-2-clause-below : goal.put-requires-2-clause-below
put-requires-2-clause-below c = rw (c.from-2.ensures, power) c.requires.held
