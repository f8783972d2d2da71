use Rattle.latm.proofs.CanonicalBytes.{canonical_body}
use Rattle.latm.proofs.laws.canonical_bytes_spell_an_element.Goals as goal

pub returns : goal.returns
returns c asc au = canonical_body asc au
