-- How runs over renditions go on.
use Rattle.std.proofs.Common.{◌≡◌, ℕ, suc, ◌+◌, Bool, true, false, List, [], ◌∷◌, ◌++◌, length, drop, Option, Some, None, refl, ap, sym, subst, ◌∙◌, arith}
use Rattle.usac_cfg.specs.declared.usac_config.UsacConfig.{UsacConfig}
use Rattle.timeline.specs.declared.piece.Piece.{Piece}
use Rattle.timeline.specs.Plan.{first_position}
use Rattle.plans.specs.Coded.{Coded}
use Rattle.plans.specs.WholeStream.{stream_config}
use Rattle.plans.specs.Parts.{Part}
use Rattle.splicer.specs.declared.asked.Asked.{Asked}
use Rattle.splicer.specs.declared.fault.SpliceFault.{SpliceFault}
use Rattle.splicer.specs.Rules.{or_then}
use Rattle.splicer.specs.Runs.{RunValue, fault, turn, behind, run_over}
use Rattle.splicer.specs.Pieces.{fault_over, GivesPiece, part_of, asked, GiveParts, is_given, given_if, given}
use Rattle.splicer.specs.SoFar.{AsksNext}
use Rattle.splicer.specs.Laws.{RunsGoOn}

-- ---- one frame more

one_rule : (x : Option SpliceFault) → or_then x None ≡ x
one_rule None = refl
one_rule (Some e) = refl

rules_in_order : (x y z : Option SpliceFault) → or_then x (or_then y z) ≡ or_then (or_then x y) z
rules_in_order None y z = refl
rules_in_order (Some e) y z = refl

passes_on : (warm : UsacConfig → ℕ) (v : RunValue) (fs : List Coded) (f : Coded) → fault_over warm v (fs ++ f ∷ []) ≡ or_then (fault_over warm v fs) (fault (run_over v fs) (warm f.config) f)
passes_on warm v [] f = one_rule (fault v (warm f.config) f)
passes_on warm v (g ∷ fs) f =
    let x = fault v (warm g.config) g in
    ap (λ (y : Option SpliceFault). or_then x y) (passes_on warm (behind v g) fs f)
    ∙ rules_in_order x (fault_over warm (behind v g) fs) (fault (run_over (behind v g) fs) (warm f.config) f)

given_more : (b : Bool) (g : Coded) (xs ys : List Coded) → given_if b g (xs ++ ys) ≡ given_if b g xs ++ ys
given_more true g xs ys = refl
given_more false g xs ys = refl

gives_on : (v : RunValue) (fs : List Coded) (f : Coded) → given v (fs ++ f ∷ []) ≡ given v fs ++ given_if (is_given (turn (run_over v fs) f)) f []
gives_on v [] f = refl
gives_on v (g ∷ fs) f =
    ap (given_if (is_given (turn v g)) g) (gives_on (behind v g) fs f)
    ∙ given_more (is_given (turn v g)) g (given (behind v g) fs) (given_if (is_given (turn (run_over (behind v g) fs) f)) f [])

-- ---- one rendition more

module _ (warm : UsacConfig → ℕ) (a : Asked) (fs : List Coded) (p : Piece) (gives : GivesPiece warm a fs p) where
  -- behind one part fewer
  drop_later : (n at : ℕ) (ats later : List ℕ) → drop (n + 1 + 1) (at ∷ ats) ≡ later → drop (n + 1) ats ≡ later
  drop_later n at ats later e = let s : n + 1 + 1 ≡ suc (n + 1) = omega arith in ap (λ (k : ℕ). drop k (at ∷ ats)) (sym s) ∙ e

  drop_one : (at : ℕ) (ats later : List ℕ) → drop (0 + 1) (at ∷ ats) ≡ later → ats ≡ later
  drop_one at ats later e = e

  next_asked : (k : ℕ) (before : Option UsacConfig) (positions : List ℕ) (ps : List Part) (at : ℕ) (ats : List ℕ) → AsksNext warm k before positions ps a → drop (length ps + 1) positions ≡ at ∷ ats
      → AsksNext warm k before positions (ps ++ part_of fs p ∷ []) (asked (k + length ps + 1) at (first_position ats) (stream_config fs))
  next_asked k before [] ps at ats h e = absurd h
  next_asked k before (x ∷ xs) [] at ats h e =
      let is : xs ≡ at ∷ ats = e in
      let P : Asked → Type 0 = λ b. GivesPiece warm b fs p in
      let Q : List ℕ → Type 0 = λ ys. AsksNext warm (k + 1) (stream_config fs) ys [] (asked (k + 1) at (first_position ats) (stream_config fs)) in
      let n : k + 1 ≡ k + length (let none : List Part = [] in none) + 1 = omega arith in
      let R : ℕ → Type 0 = λ m. AsksNext warm (k + 1) (stream_config fs) xs [] (asked m at (first_position ats) (stream_config fs)) in
      (subst P h gives, subst R n (subst Q (sym is) refl))
  next_asked k before (x ∷ xs) (q ∷ ps) at ats h e =
      let long : length (q ∷ ps) ≡ length ps + 1 = omega arith in
      let d : drop (length ps + 1 + 1) (x ∷ xs) ≡ at ∷ ats = ap (λ (m : ℕ). drop (m + 1) (x ∷ xs)) (sym long) ∙ e in
      let n : k + 1 + length ps + 1 ≡ k + length (q ∷ ps) + 1 = omega (arith, long) in
      let R : ℕ → Type 0 = λ m. AsksNext warm (k + 1) (stream_config q.stream) xs (ps ++ part_of fs p ∷ []) (asked m at (first_position ats) (stream_config fs)) in
      (h.0, subst R n (next_asked (k + 1) (stream_config q.stream) xs ps at ats h.1 (drop_later (length ps) x xs (at ∷ ats) d)))

  last_given : (k : ℕ) (before : Option UsacConfig) (positions : List ℕ) (ps : List Part) → AsksNext warm k before positions ps a → drop (length ps + 1) positions ≡ []
      → GiveParts warm k before positions (ps ++ part_of fs p ∷ [])
  last_given k before [] ps h e = absurd h
  last_given k before (x ∷ xs) [] h e =
      let is : xs ≡ [] = e in
      let P : Asked → Type 0 = λ b. GivesPiece warm b fs p in
      let Q : List ℕ → Type 0 = λ ys. GiveParts warm (k + 1) (stream_config fs) ys [] in
      (subst P h gives, subst Q (sym is) tt)
  last_given k before (x ∷ xs) (q ∷ ps) h e =
      let long : length (q ∷ ps) ≡ length ps + 1 = omega arith in
      let d : drop (length ps + 1 + 1) (x ∷ xs) ≡ [] = ap (λ (m : ℕ). drop (m + 1) (x ∷ xs)) (sym long) ∙ e in
      (h.0, last_given (k + 1) (stream_config q.stream) xs ps h.1 (drop_later (length ps) x xs [] d))

next_on : (warm : UsacConfig → ℕ) (positions : List ℕ) (ps : List Part) (a : Asked) (fs : List Coded) (p : Piece) (at : ℕ) (ats : List ℕ) → AsksNext warm 0 None positions ps a → GivesPiece warm a fs p → drop (length ps + 1) positions ≡ at ∷ ats
    → AsksNext warm 0 None positions (ps ++ part_of fs p ∷ []) (asked (length ps + 1) at (first_position ats) (stream_config fs))
next_on warm positions ps a fs p at ats h g e =
    let n : 0 + length ps + 1 ≡ length ps + 1 = omega arith in
    let P : ℕ → Type 0 = λ m. AsksNext warm 0 None positions (ps ++ part_of fs p ∷ []) (asked m at (first_position ats) (stream_config fs)) in
    subst P n (next_asked warm a fs p g 0 None positions ps at ats h e)

pub runs_on : RunsGoOn
runs_on = record {
  passes = passes_on;
  gives = gives_on;
  next = next_on;
  last = λ warm positions ps a fs p h g e. last_given warm a fs p g 0 None positions ps h e;
}
