-- Which frames are targets, and what a list of targets gives that stand where they may.
use Rattle.std.proofs.Common.{◌≡◌, ℕ, zero, suc, ◌+◌, ◌-◌, ◌<◌, ◌≤◌, Bool, true, false, List, [], ◌∷◌, ◌++◌, length, get_or, All, Some, None, Result, Ok, Err, refl, sym, ap, ◌∙◌, append_assoc, arith}
use Rattle.std.specs.Prelude.{◌||◌, ◌==◌, nat_lt, not, if◌then◌else◌}
use Rattle.std.specs.Ordering.{nat_cmp}
use Rattle.std.specs.Result.{MatchResult, is_ok}
use Rattle.std.specs.List.Sorted.{IsBinarySearchResult}
use Rattle.std.proofs.lemmas.List.{get_or_default}
use Rattle.std.proofs.lemmas.List.Folds.{list_any_at, list_any_none}
use Rattle.std.proofs.lemmas.List.Sorted.{searched}
use Rattle.std.proofs.lemmas.Bool.Decides.{nat_tests}
use Rattle.latm.specs.declared.mux_element.MuxElement.{MuxElement}
use Rattle.stream_edit.specs.Targets.{is_target, has_target, misplaced_from}
use Rattle.stream_edit.specs.Edited.{slot_in, slots_in, element_in}
use Rattle.stream_edit.specs.Steps.{IsRising, AreBelow}

-- ---- the search

is_equal : (x t : ℕ) → x ≡ t → (x == t) ≡ true
is_equal x t e = grind (arith, e, nat_tests)

is_other : (x t : ℕ) → (x ≡ t → ⊥) → (x == t) ≡ false
is_other x t ne = grind (arith, ne, nat_tests)

below_place : (targets : List ℕ) (i k t : ℕ) → ((k : ℕ) → k < i → get_or targets k 0 < t) → ((k : ℕ) → i ≤ k → k < length targets → t < get_or targets k 0) → k < length targets → get_or targets k 0 ≡ t → ⊥
below_place targets i k t below above lt e = by_side (nat_lt k i) refl
  where
    here : nat_lt k i ≡ true → ⊥
    here b = let l : k < i = grind (arith, b, nat_tests) in omega (arith, below k l, e)

    there : nat_lt k i ≡ false → ⊥
    there b = let l : i ≤ k = grind (arith, b, nat_tests) in omega (arith, above k l lt, e)

    by_side : (b : Bool) → nat_lt k i ≡ b → ⊥
    by_side true b = here b
    by_side false b = there b

pub found : (targets : List ℕ) (t : ℕ) (r : Result ℕ ℕ) → IsRising targets → IsBinarySearchResult (λ y. nat_cmp y t) targets r → is_ok r ≡ is_target targets t
found targets t r rising is = by_result r (searched targets t r is rising)
  where
    none : (i : ℕ) → ((k : ℕ) → k < i → get_or targets k 0 < t) → ((k : ℕ) → i ≤ k → k < length targets → t < get_or targets k 0) → All (λ x. (x == t) ≡ false) targets
    none i below above k d lt = ap (λ (x : ℕ). x == t) (get_or_default targets k d 0 lt) ∙ is_other (get_or targets k 0) t (below_place targets i k t below above lt)

    by_result : (q : Result ℕ ℕ) → MatchResult q (λ i. (i < length targets) × (get_or targets i 0 ≡ t)) (λ i. (i ≤ length targets) × ((k : ℕ) → k < i → get_or targets k 0 < t) × ((k : ℕ) → i ≤ k → k < length targets → t < get_or targets k 0)) → is_ok q ≡ is_target targets t
    by_result (Ok i) m = sym (list_any_at (λ x. x == t) targets i 0 m.0 (is_equal (get_or targets i 0) t m.1))
    by_result (Err i) m = sym (list_any_none (λ x. x == t) targets (none i m.1 m.2))

-- ---- frames of which none is a target

pub neither : (a b : Bool) → (a || b) ≡ false → (a ≡ false) × (b ≡ false)
neither true b e = absurd (let never : true ≡ false = e in cc)
neither false b e = (refl, e)

pub kept_slots : (make : ℕ → List ℕ → List ℕ) (targets : List ℕ) (first : ℕ) (slots : List (List ℕ)) → has_target targets first (length slots) ≡ false → slots_in make targets first slots ≡ slots
kept_slots make targets first [] e = refl
kept_slots make targets first (au ∷ slots) e =
    let p = neither (is_target targets first) (has_target targets (suc first) (length slots)) e in
    ap (λ (b : Bool). (if b then make first au else au) ∷ slots_in make targets (suc first) slots) p.0
    ∙ ap (λ (xs : List (List ℕ)). au ∷ xs) (kept_slots make targets (suc first) slots p.1)

pub kept_element : (make : ℕ → List ℕ → List ℕ) (targets : List ℕ) (first : ℕ) (e : MuxElement) → has_target targets first (length e.slots) ≡ false → e ≡ element_in make targets first e
kept_element make targets first e none = sym (ap (λ (xs : List (List ℕ)). let x : MuxElement = record { config = e.config; slots = xs; other = e.other; tail = e.tail } in x) (kept_slots make targets first e.slots none))

-- ---- targets that stand where they may

pub record ArePlaced (frames least : ℕ) (targets : List ℕ) : Type 0 where
  pub below : AreBelow frames targets
  pub above : (j : ℕ) → j < length targets → least ≤ get_or targets j 0
  pub rising : IsRising targets

placed_more : (frames least t : ℕ) (ts : List ℕ) → least ≤ t → t < frames → ArePlaced frames (suc t) ts → ArePlaced frames least (t ∷ ts)
placed_more frames least t ts le lt more = record { below = (lt, more.below); above = above; rising = rising }
  where
    above : (j : ℕ) → j < length (t ∷ ts) → least ≤ get_or (t ∷ ts) j 0
    above zero l = le
    above (suc j) l = omega (arith, le, more.above j (omega (arith, l)))

    rising : IsRising (t ∷ ts)
    rising zero zero ij l = omega arith
    rising zero (suc j) ij l = omega (arith, more.above j (omega (arith, l)))
    rising (suc i) zero ij l = absurd (omega (arith, ij))
    rising (suc i) (suc j) ij l = more.rising i j (omega (arith, ij)) (omega (arith, l))

-- the first of the targets stands where it may
pub well_placed : (frames least place t : ℕ) (ts : List ℕ) → misplaced_from frames least place (t ∷ ts) ≡ None → ((nat_lt t least || not (nat_lt t frames)) ≡ false) × (misplaced_from frames (suc t) (suc place) ts ≡ None)
well_placed frames least place t ts e = by_bad (nat_lt t least || not (nat_lt t frames)) refl
  where
    by_bad : (b : Bool) → (nat_lt t least || not (nat_lt t frames)) ≡ b → ((nat_lt t least || not (nat_lt t frames)) ≡ false) × (misplaced_from frames (suc t) (suc place) ts ≡ None)
    by_bad true h = absurd (let never : Some place ≡ None = sym (ap (λ (b : Bool). if b then Some place else misplaced_from frames (suc t) (suc place) ts) h) ∙ e in cc)
    by_bad false h = (h, sym (ap (λ (b : Bool). if b then Some place else misplaced_from frames (suc t) (suc place) ts) h) ∙ e)

pub placed : (frames least place : ℕ) (targets : List ℕ) → misplaced_from frames least place targets ≡ None → ArePlaced frames least targets
placed frames least place [] e = record { below = tt; above = λ j l. absurd (omega (arith, l)); rising = λ i j ij l. absurd (omega (arith, l)) }
placed frames least place (t ∷ ts) e =
    let p = well_placed frames least place t ts e in
    let q = neither (nat_lt t least) (not (nat_lt t frames)) p.0 in
    let le : least ≤ t = grind (arith, q.0, nat_tests) in
    let lt : t < frames = grind (arith, q.1, nat_tests) in
    placed_more frames least t ts le lt (placed frames (suc t) (suc place) ts p.1)

-- ---- one frame on

pub has_on : (targets : List ℕ) (first last : ℕ) → first < last → has_target targets first (last - first) ≡ (is_target targets first || has_target targets (first + 1) (last - (first + 1)))
has_on targets first last lt = by_count (last - first) refl
  where
    by_count : (n : ℕ) → last - first ≡ n → has_target targets first n ≡ (is_target targets first || has_target targets (first + 1) (last - (first + 1)))
    by_count zero e = absurd (omega (arith, lt, e))
    by_count (suc n) e =
        let k : suc first ≡ first + 1 = omega arith in
        let m : n ≡ last - (first + 1) = omega (arith, e) in
        ap (λ (a : ℕ). is_target targets first || has_target targets a n) k ∙ ap (λ (a : ℕ). is_target targets first || has_target targets (first + 1) a) m

-- ---- the slots, one on

pub slots_on : (make : ℕ → List ℕ → List ℕ) (targets : List ℕ) (frame : ℕ) (changed pushed slots behind : List (List ℕ)) (item new : List ℕ) → slots ≡ item ∷ behind → new ≡ slot_in make targets frame item → pushed ≡ changed ++ new ∷ []
    → pushed ++ slots_in make targets (frame + 1) behind ≡ changed ++ slots_in make targets frame slots
slots_on make targets frame changed pushed slots behind item new split is push =
    ap (λ (xs : List (List ℕ)). xs ++ slots_in make targets (frame + 1) behind) push
    ∙ append_assoc changed (new ∷ []) (slots_in make targets (frame + 1) behind)
    ∙ ap (λ (x : List ℕ). changed ++ x ∷ slots_in make targets (frame + 1) behind) is
    ∙ ap (λ (k : ℕ). changed ++ slot_in make targets frame item ∷ slots_in make targets k behind) (let k : frame + 1 ≡ suc frame = omega arith in k)
    ∙ ap (λ (xs : List (List ℕ)). changed ++ slots_in make targets frame xs) (sym split)
