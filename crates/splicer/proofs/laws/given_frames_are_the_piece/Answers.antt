use Rattle.splicer.proofs.Given.{gives_frames}
use Rattle.splicer.proofs.laws.given_frames_are_the_piece.Goals as goal

pub returns : goal.returns
returns c = gives_frames
