-- Words that are pairs.
use Rattle.std.proofs.Common.{◌≡◌, ℕ, ◌-◌, ◌*◌, ◌<◌, ◌≤◌, Bool, true, false, List, [], ◌∷◌, Option, Some, None, is_some, length, get_or, take, drop, arith, refl, ap, sym, ◌∙◌}
use Rattle.std.specs.Prelude.{string_bytes, String, ◌==◌, if◌then◌else◌}
use Rattle.std.specs.Global.{Global}
use Rattle.std.specs.Option.{option_and_then}
use Rattle.std.proofs.Math.Dec.{eqb-suc-zero}
use Rattle.std.proofs.lemmas.Bool.{false≢true}
use Rattle.std.proofs.lemmas.Bool.Decides.{nat_tests}
use Rattle.std.proofs.lemmas.List.{take_all, length-map}
use Rattle.xheaac_tool.specs.Numbers.{number_of}
use Rattle.xheaac_tool.specs.Words.{PieceWords, piece_before, pairs_of, pieces_of, if_few, are_few, texts}

-- The number and the pieces behind it are there, where the pieces are.
pub record Parts (file : List ℕ) (number : Option ℕ) (later : Option (List PieceWords)) (pieces : List PieceWords) : Type 0 where
  pub position : ℕ
  pub more : List PieceWords
  pub is_number : number ≡ Some position
  pub are_more : later ≡ Some more
  pub whole : pieces ≡ record { file = file; position = position } ∷ more

pub parts_of : (file : List ℕ) (number : Option ℕ) (later : Option (List PieceWords)) (pieces : List PieceWords) → piece_before file number later ≡ Some pieces → Parts file number later pieces
parts_of file None later pieces are = cc
parts_of file (Some position) None pieces are = cc
parts_of file (Some position) (Some more) pieces are = record { position = position; more = more; is_number = refl; are_more = refl; whole = cc }

-- two words for each piece
pub two_each : (words : List (List ℕ)) (pieces : List PieceWords) → pairs_of words ≡ Some pieces → length words ≡ 2 * length pieces
two_each [] pieces are = let e : [] ≡ pieces = cc in let l = ap (λ (ps : List PieceWords). length ps) e in omega (arith, l)
two_each (file ∷ []) pieces are = cc
two_each (file ∷ word ∷ words) pieces are =
    let p = parts_of file (number_of word) (pairs_of words) pieces are in
    let e = two_each words p.more p.are_more in
    let l = ap (λ (ps : List PieceWords). length ps) p.whole in
    omega (arith, e, l)

-- the first two of them, and those behind
pub first_two : (words : List (String Global)) (file word : String Global) → 2 ≤ length words → file ≡ get_or words 0 file → word ≡ get_or words 1 word → texts words ≡ string_bytes file ∷ string_bytes word ∷ texts (take (length words - 2) (drop 2 words))
first_two [] file word long first second = absurd (omega (arith, long))
first_two (x ∷ []) file word long first second = absurd (omega (arith, long))
first_two (x ∷ y ∷ words) file word long first second =
    let behind : take (length (x ∷ y ∷ words) - 2) words ≡ words = take_all (length (x ∷ y ∷ words) - 2) words (omega arith) in
    let f : file ≡ x = first in
    let w : word ≡ y = second in
    rw (f, w, behind) refl

-- fewer than two words are pairs where there are none
pub fewer : (words : List (String Global)) → length words < 2 → (length words == 0) ≡ is_some (pairs_of (texts words))
fewer [] short = refl
fewer (word ∷ []) short = refl
fewer (file ∷ word ∷ words) short = absurd (omega (arith, short))

too_many : (pieces : List PieceWords) → 64 < length pieces → if_few pieces ≡ None
too_many pieces many = grind (arith, nat_tests)

enough : (pieces : List PieceWords) → 1 ≤ length pieces → length pieces ≤ 64 → if_few pieces ≡ Some pieces
enough pieces some few = grind (arith, nat_tests)

chosen : (b : Bool) (these pieces : List PieceWords) → (if b then Some these else None) ≡ Some pieces → (b ≡ true) × (these ≡ pieces)
chosen true these pieces are = (refl, cc)
chosen false these pieces are = cc

counted : (pieces : List PieceWords) → are_few pieces ≡ true → (1 ≤ length pieces) × (length pieces ≤ 64)
counted pieces few = grind (arith, nat_tests)

-- They are these pieces, from 1 to 64.
pub record Few (pairs : Option (List PieceWords)) (pieces : List PieceWords) : Type 0 where
  pub are : pairs ≡ Some pieces
  pub some : 1 ≤ length pieces
  pub few : length pieces ≤ 64

pub few_of : (pairs : Option (List PieceWords)) (pieces : List PieceWords) → option_and_then if_few pairs ≡ Some pieces → Few pairs pieces
few_of None pieces are = cc
few_of (Some these) pieces are =
    let c = chosen (are_few these) these pieces are in
    let n = counted these c.0 in
    let l = ap (λ (ps : List PieceWords). length ps) c.1 in
    record { are = ap (λ (ps : List PieceWords). Some ps) c.1; some = omega (arith, n, l); few = omega (arith, n, l) }

none_of_many : (pairs : Option (List PieceWords)) (n : ℕ) → ((pieces : List PieceWords) → pairs ≡ Some pieces → n ≡ 2 * length pieces) → 128 < n → option_and_then if_few pairs ≡ None
none_of_many None n each many = refl
none_of_many (Some pieces) n each many = let e = each pieces refl in too_many pieces (omega (arith, e, many))

pub no_more : (words : List (String Global)) → 128 < length words → pieces_of (texts words) ≡ None
no_more words many =
    let count = length-map words string_bytes in
    none_of_many (pairs_of (texts words)) (length (texts words)) (two_each (texts words)) (omega (arith, count, many))

some_of_few : (pairs : Option (List PieceWords)) (n : ℕ) → ((pieces : List PieceWords) → pairs ≡ Some pieces → n ≡ 2 * length pieces) → 0 < n → n ≤ 128 → is_some pairs ≡ true → is_some (option_and_then if_few pairs) ≡ true
some_of_few None n each some few there = there
some_of_few (Some pieces) n each some few there =
    let e = each pieces refl in
    ap (λ (o : Option (List PieceWords)). is_some o) (enough pieces (omega (arith, e, some)) (omega (arith, e, few)))

some_words : (words : List (String Global)) → (length words == 0) ≡ false → 0 < length words
some_words [] some = cc
some_words (word ∷ words) some = omega arith

pub some_there : (words : List (String Global)) → (length words == 0) ≡ false → length words ≤ 128 → is_some (pairs_of (texts words)) ≡ true → is_some (pieces_of (texts words)) ≡ true
some_there words some few there =
    let count = length-map words string_bytes in
    let n = some_words words some in
    some_of_few (pairs_of (texts words)) (length (texts words)) (two_each (texts words)) (omega (arith, count, n)) (omega (arith, count, few)) there

no_pairs : (pairs : Option (List PieceWords)) → is_some pairs ≡ false → option_and_then if_few pairs ≡ None
no_pairs None no_one = refl
no_pairs (Some pieces) no_one = cc

pub none_odd : (words : List (List ℕ)) → is_some (pairs_of words) ≡ false → pieces_of words ≡ None
none_odd words no_one = no_pairs (pairs_of words) no_one

pub none_there : (words : List (String Global)) → (length words == 0) ≡ true → pieces_of (texts words) ≡ None
none_there [] no_one = refl
none_there (word ∷ words) no_one = absurd (false≢true (sym (eqb-suc-zero (length words)) ∙ no_one))

-- the pieces behind a pair that was taken off
pub record Taken (behind : List (String Global)) (file : String Global) (position : ℕ) (more : List PieceWords) : Type 0 where
  pub later : List PieceWords
  pub are : pairs_of (texts behind) ≡ Some later
  pub whole : more ≡ record { file = string_bytes file; position = position } ∷ later

pub taken : (words : List (String Global)) (more : List PieceWords) (file word : String Global) (position : ℕ) → 2 ≤ length words → file ≡ get_or words 0 file → word ≡ get_or words 1 word → pairs_of (texts words) ≡ Some more → Some position ≡ number_of (string_bytes word) → Taken (take (length words - 2) (drop 2 words)) file position more
taken words more file word position long first second are number =
    let behind = take (length words - 2) (drop 2 words) in
    let now : pairs_of (string_bytes file ∷ string_bytes word ∷ texts behind) ≡ Some more = ap (λ ws. pairs_of ws) (sym (first_two words file word long first second)) ∙ are in
    let p = parts_of (string_bytes file) (number_of (string_bytes word)) (pairs_of (texts behind)) more now in
    let same : position ≡ p.position = let e = number ∙ p.is_number in cc in
    record { later = p.more; are = p.are_more; whole = p.whole ∙ ap (λ n. record { file = string_bytes file; position = n } ∷ p.more) (sym same) }

-- fewer than two words ask for no piece more
pub no_piece : (words : List (String Global)) (more : List PieceWords) → length words < 2 → pairs_of (texts words) ≡ Some more → more ≡ []
no_piece [] more short are = cc
no_piece (word ∷ []) more short are = cc
no_piece (file ∷ word ∷ words) more short are = absurd (omega (arith, short))
