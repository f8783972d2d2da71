-- Elements that are passed over on the way to a target's.
use Rattle.std.proofs.Common.{◌≡◌, ℕ, ◌+◌, ◌<◌, ◌≤◌, Bool, true, false, List, [], ◌∷◌, ◌++◌, length, take, drop, get_or, Option, Some, None, refl, sym, ap, subst, ◌∙◌, arith}
use Rattle.std.specs.Prelude.{nat_lt, if◌then◌else◌}
use Rattle.std.specs.List.{AllByRecursion}
use Rattle.std.proofs.lemmas.Bool.Decides.{nat_tests}
use Rattle.std.proofs.lemmas.List.{length-append, length-drop, take-append-drop, drop_more, take_more, drop-drop, drop_at}
use Rattle.std.proofs.lemmas.Grind.{flat_map-append}
use Rattle.latm.specs.declared.mux_element.MuxElement.{MuxElement}
use Rattle.ipf_insert.specs.declared.fault.InsertFault.{InsertFault}
use Rattle.ipf_insert.specs.declared.fault.InsertFault.TheVariants.{TooLong}
use Rattle.ipf_insert.specs.Inserting.{Settled}
use Rattle.ipf_insert.specs.Rules.{or_then, fault_if, is_long, element_of, frame_of_target, units_of_target, target_rule}
use Rattle.ipf_insert.specs.Steps.{IsHere, slots_of, slot_count, IsFrom, IsFramable, AreFramable, SeeksTo}

pub count_of : (es : List MuxElement) → length (slots_of es) ≡ slot_count es
count_of [] = refl
count_of (e ∷ es) = length-append e.slots (slots_of es) ∙ ap (λ (n : ℕ). length e.slots + n) (count_of es)

pub count_both : (xs ys : List MuxElement) → slot_count (xs ++ ys) ≡ slot_count xs + slot_count ys
count_both [] ys = omega arith
count_both (x ∷ xs) ys = let more = count_both xs ys in omega (arith, more)

pub count_last : (es : List MuxElement) (e : MuxElement) → slot_count (es ++ e ∷ []) ≡ slot_count es + length e.slots
count_last es e = count_both es (e ∷ []) ∙ (let n : slot_count es + (length e.slots + 0) ≡ slot_count es + length e.slots = omega arith in n)

-- one element on
pub count_on : (es : List MuxElement) (k : ℕ) (d : MuxElement) → k < length es → slot_count (take (k + 1) es) ≡ slot_count (take k es) + length (get_or es k d).slots
count_on es k d lt = ap slot_count (take_more es k d lt) ∙ count_last (take k es) (get_or es k d)

pub count_split : (es : List MuxElement) (k : ℕ) → slot_count es ≡ slot_count (take k es) + slot_count (drop k es)
count_split es k = ap slot_count (sym (take-append-drop k es)) ∙ count_both (take k es) (drop k es)

-- the element with the frame is behind those that are passed over
passes : (e : MuxElement) (es : List MuxElement) (t n : ℕ) → n + length e.slots ≤ t → element_of t n (e ∷ es) ≡ element_of t (n + length e.slots) es
passes e es t n le = ap (λ (b : Bool). if b then Some (n, e) else element_of t (n + length e.slots) es) (let b : nat_lt t (n + length e.slots) ≡ false = grind (arith, le, nat_tests) in b)

pub past : (passed rest : List MuxElement) (t n : ℕ) → n + slot_count passed ≤ t → element_of t n (passed ++ rest) ≡ element_of t (n + slot_count passed) rest
past [] rest t n le = ap (λ (k : ℕ). element_of t k rest) (let k : n ≡ n + 0 = omega arith in k)
past (e ∷ passed) rest t n le =
    passes e (passed ++ rest) t n (omega (arith, le))
    ∙ past passed rest t (n + length e.slots) (omega (arith, le))
    ∙ ap (λ (k : ℕ). element_of t k rest) (let k : n + length e.slots + slot_count passed ≡ n + (length e.slots + slot_count passed) = omega arith in k)

-- it is the leading one
pub leading : (e : MuxElement) (es : List MuxElement) (t n : ℕ) → t < n + length e.slots → element_of t n (e ∷ es) ≡ Some (n, e)
leading e es t n lt = ap (λ (b : Bool). if b then Some (n, e) else element_of t (n + length e.slots) es) (let b : nat_lt t (n + length e.slots) ≡ true = grind (arith, lt, nat_tests) in b)

-- what is left holds the access units that are left
pub from_rest : (aus : List (List ℕ)) (passed rest : List MuxElement) (first : ℕ) → IsFrom aus first (passed ++ rest) → IsFrom aus (first + slot_count passed) rest
from_rest aus passed rest first from =
    sym (drop-drop (slot_count passed) first aus)
    ∙ ap (λ (xs : List (List ℕ)). drop (slot_count passed) xs) (from ∙ flat_map-append (λ (e : MuxElement). e.slots) passed rest)
    ∙ drop_at (slots_of passed) (slots_of rest) (slot_count passed) (count_of passed)

pub here_first : (aus : List (List ℕ)) (e : MuxElement) (es : List MuxElement) (first : ℕ) → IsFrom aus first (e ∷ es) → IsHere aus first e.slots
here_first aus e es first from = (slots_of es, from)

pub from_behind : (aus : List (List ℕ)) (e : MuxElement) (es : List MuxElement) (first : ℕ) → IsFrom aus first (e ∷ es) → IsFrom aus (first + length e.slots) es
from_behind aus e es first from =
    sym (drop-drop (length e.slots) first aus) ∙ ap (λ (xs : List (List ℕ)). drop (length e.slots) xs) from ∙ drop_at e.slots (slots_of es) (length e.slots) refl

pub all_rest : (P : MuxElement → Type 0) (passed rest : List MuxElement) → AllByRecursion P (passed ++ rest) → AllByRecursion P rest
all_rest P [] rest h = h
all_rest P (e ∷ passed) rest h = all_rest P passed rest h.1

-- ---- the search

-- the element of the place
pub found_at : (es : List MuxElement) (first target k n : ℕ) (d : MuxElement) → k < length es → n ≡ first + slot_count (take k es) → n ≤ target → target < n + length (get_or es k d).slots → SeeksTo es first target (drop k es) n
found_at es first target k n d lt number le there = record {
  passed = take k es;
  split = sym (take-append-drop k es);
  number = number;
  element = get_or es k d;
  behind = drop (k + 1) es;
  leads = drop_more es k d lt;
  from = le;
  there = there;
}

-- a target below the number of all frames is in one of the elements
pub not_behind : (es : List MuxElement) (first target n : ℕ) → n ≡ first + slot_count (take (length es) es) → n ≤ target → target < first + slot_count es → ⊥
not_behind es first target n number le lt =
    let all = count_split es (length es) in
    let none : slot_count (drop (length es) es) ≡ 0 = ap slot_count (drop_all es) in
    omega (arith, all, none, number, le, lt)
  where
    drop_all : (xs : List MuxElement) → drop (length xs) xs ≡ []
    drop_all [] = refl
    drop_all (x ∷ xs) = drop_all xs

pub next_few : (es : List MuxElement) (first n k most : ℕ) (d : MuxElement) → k < length es → n ≡ first + slot_count (take k es) → first + slot_count es ≤ most → n + length (get_or es k d).slots ≤ most
next_few es first n k most d lt number few =
    let on = count_on es k d lt in
    let all = count_split es (k + 1) in
    omega (arith, on, all, number, few)

pub next_number : (es : List MuxElement) (first n k : ℕ) (d : MuxElement) → k < length es → n ≡ first + slot_count (take k es) → n + length (get_or es k d).slots ≡ first + slot_count (take (k + 1) es)
next_number es first n k d lt number = let on = count_on es k d lt in omega (arith, on, number)

-- ---- one target on

pub room_left : (aus : List (List ℕ)) (first target : ℕ) (rest : List MuxElement) → IsFrom aus first rest → first ≤ target → target < length aus → first + slot_count rest ≡ length aus
room_left aus first target rest from le lt =
    let left = length-drop first aus in
    let slots = ap (λ (xs : List (List ℕ)). length xs) from in
    omega (arith, left, slots, count_of rest, le, lt)

-- what is known where the element of the target was found
pub record Reached (aus : List (List ℕ)) (es rest : List MuxElement) (first target n : ℕ) (e : MuxElement) : Type 0 where
  pub from : IsFrom aus n rest
  pub here : IsHere aus n e.slots
  pub framable : AreFramable rest
  pub one : IsFramable e
  pub there : (t : ℕ) → n ≤ t → element_of t first es ≡ element_of t n rest
  pub found : element_of target n rest ≡ Some (n, e)
  pub le : n ≤ target

pub reached : (aus : List (List ℕ)) (es rest : List MuxElement) (first target n : ℕ) (e : MuxElement) → IsFrom aus first es → AreFramable es → SeeksTo es first target rest n → e ≡ get_or rest 0 e → Reached aus es rest first target n e
reached aus es rest first target n e from framable s is =
    let one : e ≡ s.element = is ∙ ap (λ (xs : List MuxElement). get_or xs 0 e) s.leads in
    let passed : IsFrom aus first (s.passed ++ rest) = subst (λ (xs : List MuxElement). IsFrom aus first xs) s.split from in
    let left : IsFrom aus n rest = subst (λ (k : ℕ). IsFrom aus k rest) (sym s.number) (from_rest aus s.passed rest first passed) in
    let lead : IsFrom aus n (s.element ∷ s.behind) = subst (λ (xs : List MuxElement). IsFrom aus n xs) s.leads left in
    let all : AreFramable rest = all_rest IsFramable s.passed rest (subst AreFramable s.split framable) in
    let both : AreFramable (s.element ∷ s.behind) = subst AreFramable s.leads all in
    record {
      from = left;
      here = subst (λ (x : MuxElement). IsHere aus n x.slots) (sym one) (here_first aus s.element s.behind n lead);
      framable = all;
      one = subst IsFramable (sym one) both.0;
      there = λ t le. ap (λ (xs : List MuxElement). element_of t first xs) s.split ∙ past s.passed rest t first (omega (arith, s.number, le)) ∙ ap (λ (k : ℕ). element_of t k rest) (sym s.number);
      found = ap (λ (xs : List MuxElement). element_of target n xs) s.leads ∙ leading s.element s.behind target n s.there ∙ ap (λ (x : MuxElement). Some (n, x)) (sym one);
      le = s.from;
    }

-- of a target that keeps its own rules, the length of its element is left
pub target_is : (i : Settled) (es : List MuxElement) (targets : List ℕ) (t n : ℕ) (e : MuxElement) → frame_of_target i t ≡ None → units_of_target i t ≡ None → element_of t 0 es ≡ Some (n, e)
    → target_rule i es targets t ≡ fault_if (is_long i targets (Some (n, e))) (TooLong t)
target_is i es targets t n e frame units at =
    ap (λ (o : Option InsertFault). or_then o (or_then (units_of_target i t) (fault_if (is_long i targets (element_of t 0 es)) (TooLong t)))) frame
    ∙ ap (λ (o : Option InsertFault). or_then o (fault_if (is_long i targets (element_of t 0 es)) (TooLong t))) units
    ∙ ap (λ (o : Option (ℕ × MuxElement)). fault_if (is_long i targets o) (TooLong t)) at
