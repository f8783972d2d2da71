-- The pieces that words ask for, as a list of names and a list of positions.
use Rattle.std.specs.Prelude.{◌≡◌, ℕ, ◌≤◌, List, length, map}
use Rattle.std.specs.Borrow.{Bor}
use Rattle.xheaac_tool.specs.declared.listing.PieceLists.{PieceLists}
use Rattle.xheaac_tool.specs.Words.{PieceWords, files_of, positions_of}

-- the texts that these stand for
abbrev pub texts_at : List (Bor (List ℕ)) → List (List ℕ)
texts_at names = map (λ name. name.now) names

-- Both lists are those of the pieces, in order, from 1 to 64.
pub record AreListed (lists : PieceLists) (pieces : List PieceWords) : Type 0 where
  pub files : texts_at lists.files.items ≡ files_of pieces
  pub positions : lists.positions.items ≡ positions_of pieces
  pub some : 1 ≤ length pieces
  pub few : length pieces ≤ 64
