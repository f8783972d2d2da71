-- Pieces before those of a result.
use Rattle.std.proofs.Common.{◌≡◌, ◌<◌, length, ℕ, suc, ◌+◌, List, [], ◌∷◌, ◌++◌, drop, get_or, Option, Some, Result, Ok, Err, refl, ap, sym, ◌∙◌, drop-cons, arith}
use Rattle.std.proofs.lemmas.List.{append_assoc}
use Rattle.timeline.specs.declared.shape.Shape.{Shape}
use Rattle.timeline.specs.declared.piece.Piece.{Piece}
use Rattle.timeline.specs.declared.fault.PlanFault.{PlanFault}
use Rattle.timeline.specs.Plan.{piece_result, next_position, plan_from, and_then, with_pieces}

abbrev pub pieces_before : List Piece → Result (List Piece) PlanFault → Result (List Piece) PlanFault
pieces_before done (Ok ps) = Ok (done ++ ps)
pieces_before done (Err e) = Err e

before_more : (done : List Piece) (p : Piece) (r : Result (List Piece) PlanFault) → pieces_before (done ++ p ∷ []) r ≡ pieces_before done (with_pieces p r)
before_more done p (Ok ps) = ap Ok (append_assoc done (p ∷ []) ps)
before_more done p (Err e) = refl

-- one piece more
pub plan_on : (b : Option Shape) (ss : List Shape) (ats : List ℕ) (i : ℕ) (s : Shape) (done : List Piece) (p : Piece) → i < length ss → i < length ats → s ≡ get_or ss i s
    → Ok p ≡ piece_result i b s (get_or ats i 0) (next_position i ats)
    → pieces_before (done ++ p ∷ []) (plan_from (i + 1) (Some s) (drop (i + 1) ss) (drop (i + 1) ats)) ≡ pieces_before done (plan_from i b (drop i ss) (drop i ats))
plan_on b ss ats i s done p h k is e =
    let n : suc i ≡ i + 1 = omega arith in
    let e1 : drop i ss ≡ s ∷ drop (i + 1) ss = drop-cons ss i s h ∙ (ap (λ m. get_or ss i s ∷ drop m ss) n ∙ ap (λ x. x ∷ drop (i + 1) ss) (sym is)) in
    let e2 : drop i ats ≡ get_or ats i 0 ∷ drop (i + 1) ats = drop-cons ats i 0 k ∙ ap (λ m. get_or ats i 0 ∷ drop m ats) n in
    before_more done p (plan_from (i + 1) (Some s) (drop (i + 1) ss) (drop (i + 1) ats))
    ∙ ap (pieces_before done)
    (ap (λ r. and_then r (plan_from (i + 1) (Some s) (drop (i + 1) ss) (drop (i + 1) ats))) e
    ∙ (ap (λ xs. plan_from i b xs (get_or ats i 0 ∷ drop (i + 1) ats)) (sym e1) ∙ ap (plan_from i b (drop i ss)) (sym e2)))
