use Rattle.latm.proofs.CanonicalBytes.{bytes_by}
use Rattle.editing.proofs.elements.in_range.Goals as goal

pub returns-clause-range : goal.returns-clause-range
returns-clause-range c = bytes_by c.args.bytes.now c.type_inv.bytes
