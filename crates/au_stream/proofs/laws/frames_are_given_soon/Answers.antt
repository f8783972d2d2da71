use Rattle.au_stream.proofs.Near.{reads_near}
use Rattle.au_stream.proofs.laws.frames_are_given_soon.Goals as goal

pub returns : goal.returns
returns c got given f r h = reads_near got given f r h
