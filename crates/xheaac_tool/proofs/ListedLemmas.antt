-- A piece more in two lists.
use Rattle.std.proofs.Common.{◌≡◌, ℕ, List, [], ◌∷◌, ◌++◌, length, refl, ap, sym, ◌∙◌}
use Rattle.std.specs.Borrow.{Bor}
use Rattle.xheaac_tool.specs.Words.{PieceWords, files_of, positions_of}
use Rattle.xheaac_tool.specs.Listed.{AreListed, texts_at}
use Rattle.xheaac_tool.specs.declared.listing.PieceLists.{PieceLists}
use Rattle.std.proofs.lemmas.List.{length-map}

pub file_more : (files : List (Bor (List ℕ))) (name : Bor (List ℕ)) (file : List ℕ) (position : ℕ) (more later : List PieceWords) (all : List (List ℕ)) → name.now ≡ file → more ≡ record { file = file; position = position } ∷ later → texts_at files ++ files_of more ≡ all → texts_at (files ++ name ∷ []) ++ files_of later ≡ all
file_more [] name file position more later all now whole are = ap (λ t. t ∷ files_of later) now ∙ (ap files_of (sym whole) ∙ are)
file_more (f ∷ files) name file position more later all now whole are = ap (λ ts. f.now ∷ ts) (file_more files name file position more later (texts_at files ++ files_of more) now whole refl) ∙ are

pub position_more : (positions : List ℕ) (file : List ℕ) (position : ℕ) (more later : List PieceWords) (all : List ℕ) → more ≡ record { file = file; position = position } ∷ later → positions ++ positions_of more ≡ all → (positions ++ position ∷ []) ++ positions_of later ≡ all
position_more [] file position more later all whole are = ap positions_of (sym whole) ∙ are
position_more (p ∷ positions) file position more later all whole are = ap (λ ps. p ∷ ps) (position_more positions file position more later (positions ++ positions_of more) whole refl) ∙ are

pub as_many_files : (lists : PieceLists) (pieces : List PieceWords) → AreListed lists pieces → length lists.files.items ≡ length pieces
as_many_files lists pieces are = sym (length-map lists.files.items (λ name. name.now)) ∙ (ap (λ ts. length ts) are.files ∙ length-map pieces (λ piece. piece.file))

pub as_many_positions : (lists : PieceLists) (pieces : List PieceWords) → AreListed lists pieces → length lists.positions.items ≡ length pieces
as_many_positions lists pieces are = ap (λ ns. length ns) are.positions ∙ length-map pieces (λ piece. piece.position)
