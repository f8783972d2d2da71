use Rattle.au_stream.proofs.Canonical.{canonical_back}
use Rattle.au_stream.proofs.laws.canonical_frames_are_read_back.Goals as goal

pub returns : goal.returns
returns c first handed begins all le = canonical_back first handed begins all le
