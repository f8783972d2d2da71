use Rattle.splicer.proofs.Pieces.{gives_sound_pieces}
use Rattle.splicer.proofs.laws.sound_pieces_are_given.Goals as goal

pub returns : goal.returns
returns c = gives_sound_pieces
