use Rattle.std.proofs.Common.{◌≡◌, ◌++◌, List, Some, length}
use Rattle.xheaac_tool.specs.Words.{PieceWords, pairs_of, files_of, positions_of, texts}
use Rattle.xheaac_tool.specs.Listed.{texts_at}
use Rattle.xheaac_tool.specs.Asked.{pieces_at}
use Rattle.xheaac_tool.proofs.listing.piece_lists.Given as goal

-- What is listed, and the pieces that the words to come ask for, are all pieces.
abbrev pub invariant-loop-later : goal.invariant-loop-later
invariant-loop-later l = (more : List PieceWords) × (pairs_of (texts l.later) ≡ Some more) × (texts_at l.files.items ++ files_of more ≡ files_of (pieces_at l.pairs)) × (l.positions.items ++ positions_of more ≡ positions_of (pieces_at l.pairs))

abbrev pub decreases-loop-later : goal.decreases-loop-later
decreases-loop-later l = length l.later
