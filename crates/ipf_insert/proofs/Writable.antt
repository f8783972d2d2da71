-- Where no target breaks a rule, each element can be written with all targets inserted.
use Rattle.std.proofs.Common.{◌≡◌, ℕ, zero, suc, ◌+◌, ◌<◌, ◌≤◌, Bool, true, false, List, [], ◌∷◌, ◌++◌, length, Option, Some, None, refl, sym, ap, subst, ◌∙◌, append_assoc, append-nil, arith}
use Rattle.std.specs.Prelude.{◌||◌, ◌==◌, nat_lt, if◌then◌else◌}
use Rattle.std.specs.List.{AllByRecursion}
use Rattle.std.proofs.lemmas.List.Folds.{list_any-append}
use Rattle.std.proofs.lemmas.Bool.Decides.{nat_tests}
use Rattle.latm.specs.declared.mux_config.MuxConfig.{MuxConfig}
use Rattle.latm.specs.declared.mux_element.MuxElement.{MuxElement}
use Rattle.latm.specs.MuxElement.{then_in_force, with_slots}
use Rattle.latm.specs.Stream.{AreElements}
use Rattle.latm.specs.Written.{element_text}
use Rattle.ipf_frame.specs.Slot.{new_slot}
use Rattle.ipf_insert.specs.declared.fault.InsertFault.TheVariants.{TooLong}
use Rattle.stream_edit.specs.Edited.{slots_in, element_in, elements_in}
use Rattle.stream_edit.specs.Giving.{IsWritable}
use Rattle.stream_edit.specs.Steps.{AreBelow}
use Rattle.stream_edit.specs.Targets.{is_target, has_target}
use Rattle.stream_edit.proofs.Placed.{kept_element}
use Rattle.stream_edit.proofs.Whole.{whole_with}
use Rattle.ipf_insert.specs.Inserting.{Settled, units_before, target_slot}
use Rattle.ipf_insert.specs.Rules.{or_then, fault_if, is_long, element_of, frame_of_target, units_of_target, target_rule, targets_rule}
use Rattle.ipf_insert.specs.Steps.{slot_count, AreKept}
use Rattle.ipf_insert.proofs.Elements.{framable}
use Rattle.ipf_insert.proofs.Seeking.{count_last, past, leading}
use Rattle.ipf_insert.proofs.Targets.{passed, unset}

-- ---- a target that is none of these frames changes nothing in them

or_false : (b : Bool) → (b || false) ≡ b
or_false true = refl
or_false false = refl

still : (before : List ℕ) (t m : ℕ) → (t ≡ m → ⊥) → is_target (before ++ t ∷ []) m ≡ is_target before m
still before t m ne =
    let other : (t == m) ≡ false = grind (arith, ne, nat_tests) in
    list_any-append (λ x. x == m) before (t ∷ []) ∙ ap (λ (b : Bool). is_target before m || (b || false)) other ∙ or_false (is_target before m)

slots_still : (i : Settled) (before : List ℕ) (t n : ℕ) (slots : List (List ℕ)) → ((m : ℕ) → n ≤ m → m < n + length slots → t ≡ m → ⊥) → slots_in (target_slot i) (before ++ t ∷ []) n slots ≡ slots_in (target_slot i) before n slots
slots_still i before t n [] ne = refl
slots_still i before t n (au ∷ slots) ne =
    ap (λ (b : Bool). (if b then new_slot i.config i.fade (units_before i.count n i.aus) au else au) ∷ slots_in (target_slot i) (before ++ t ∷ []) (suc n) slots) (still before t n (ne n (omega arith) (omega arith)))
    ∙ ap (λ (xs : List (List ℕ)). (if is_target before n then new_slot i.config i.fade (units_before i.count n i.aus) au else au) ∷ xs) (slots_still i before t (suc n) slots (λ m le lt. ne m (omega (arith, le)) (omega (arith, lt))))

element_still : (i : Settled) (before : List ℕ) (t n : ℕ) (e : MuxElement) → ((m : ℕ) → n ≤ m → m < n + length e.slots → t ≡ m → ⊥) → element_in (target_slot i) (before ++ t ∷ []) n e ≡ element_in (target_slot i) before n e
element_still i before t n e ne = ap (λ (xs : List (List ℕ)). with_slots xs e) (slots_still i before t n e.slots ne)

-- ---- an element is short enough with all targets

no_target : (n k : ℕ) → has_target [] n k ≡ false
no_target n zero = refl
no_target n (suc k) = no_target (suc n) k

abbrev IsShort : Settled → List ℕ → ℕ → MuxElement → Type 0
IsShort i targets n e = length (element_text (element_in (target_slot i) targets n e)) ≤ 65528

module _ (i : Settled) (es : List MuxElement) (n : ℕ) (e : MuxElement) (has : (t : ℕ) → n ≤ t → t < n + length e.slots → element_of t 0 es ≡ Some (n, e)) where
  -- its own targets are short by their rule
  own : (before : List ℕ) (t : ℕ) → n ≤ t → t < n + length e.slots → target_rule i es before t ≡ None → IsShort i before n e
  own before t le lt kept =
      let p = passed (frame_of_target i t) (or_then (units_of_target i t) (fault_if (is_long i before (element_of t 0 es)) (TooLong t))) kept in
      let q = passed (units_of_target i t) (fault_if (is_long i before (element_of t 0 es)) (TooLong t)) p.1 in
      let no : nat_lt 65528 (length (element_text (element_in (target_slot i) before n e))) ≡ false = sym (ap (λ (o : Option (ℕ × MuxElement)). is_long i before o) (has t le lt)) ∙ unset _ (TooLong t) q.1 in
      grind (arith, no, nat_tests)

  one : (before : List ℕ) (t : ℕ) → IsShort i before n e → target_rule i es (before ++ t ∷ []) t ≡ None → IsShort i (before ++ t ∷ []) n e
  one before t short kept = by_low (nat_lt t n) refl
    where
      elsewhere : ((m : ℕ) → n ≤ m → m < n + length e.slots → t ≡ m → ⊥) → IsShort i (before ++ t ∷ []) n e
      elsewhere ne = subst (λ (x : MuxElement). length (element_text x) ≤ 65528) (sym (element_still i before t n e ne)) short

      by_high : (b : Bool) → nat_lt t (n + length e.slots) ≡ b → nat_lt t n ≡ false → IsShort i (before ++ t ∷ []) n e
      by_high true lt low = own (before ++ t ∷ []) t (let l : n ≤ t = grind (arith, low, nat_tests) in l) (let l : t < n + length e.slots = grind (arith, lt, nat_tests) in l) kept
      by_high false lt low = let l : n + length e.slots ≤ t = grind (arith, lt, nat_tests) in elsewhere (λ m a b q. omega (arith, l, b, q))

      by_low : (b : Bool) → nat_lt t n ≡ b → IsShort i (before ++ t ∷ []) n e
      by_low true q = let l : t < n = grind (arith, q, nat_tests) in elsewhere (λ m a b r. omega (arith, l, a, r))
      by_low false q = by_high (nat_lt t (n + length e.slots)) refl q

  all : (before ts : List ℕ) → IsShort i before n e → targets_rule i es before ts ≡ None → IsShort i (before ++ ts) n e
  all before [] short kept = subst (λ (ts : List ℕ). IsShort i ts n e) (sym (append-nil before)) short
  all before (t ∷ ts) short kept =
      let p = passed (target_rule i es (before ++ t ∷ []) t) (targets_rule i es (before ++ t ∷ []) ts) kept in
      subst (λ (xs : List ℕ). IsShort i xs n e) (append_assoc before (t ∷ []) ts) (all (before ++ t ∷ []) ts (one before t short p.0) p.1)

  pub short_with : (targets : List ℕ) → length (element_text e) ≤ 65528 → targets_rule i es [] targets ≡ None → IsShort i targets n e
  short_with targets few kept =
      all [] targets (subst (λ (x : MuxElement). length (element_text x) ≤ 65528) (kept_element (target_slot i) [] n e (no_target n (length e.slots))) few) kept

-- ---- all elements

pub writable_from : (i : Settled) (es : List MuxElement) (targets : List ℕ) (before : Option MuxConfig) (front rest : List MuxElement) → targets_rule i es [] targets ≡ None → es ≡ front ++ rest → AreElements before rest
    → AllByRecursion IsWritable (elements_in (target_slot i) targets (slot_count front) rest)
writable_from i es targets before front [] kept cut h = tt
writable_from i es targets before front (e ∷ rest) kept cut h =
    let f = framable before e h.0 in
    let has : (t : ℕ) → slot_count front ≤ t → t < slot_count front + length e.slots → element_of t 0 es ≡ Some (slot_count front, e) = λ t le lt.
    ap (λ (xs : List MuxElement). element_of t 0 xs) cut ∙ past front (e ∷ rest) t 0 (omega (arith, le)) ∙ ap (λ (k : ℕ). element_of t k (e ∷ rest)) (let k : 0 + slot_count front ≡ slot_count front = omega arith in k) ∙ leading e rest t (slot_count front) lt in (
      record {
        config = f.config;
        whole = whole_with (slots_in (target_slot i) targets (slot_count front) e.slots) e f.whole;
        few = short_with i es (slot_count front) e has targets h.0.few kept;
      },
      subst (λ (n : ℕ). AllByRecursion IsWritable (elements_in (target_slot i) targets n rest)) (count_last front e)
          (writable_from i es targets (then_in_force before e.config) (front ++ e ∷ []) rest kept (cut ∙ sym (append_assoc front (e ∷ []) rest)) h.1),
    )

-- ---- all targets

pub all_kept : (i : Settled) (es : List MuxElement) (before ts : List ℕ) → AreBelow (length i.aus) ts → targets_rule i es before ts ≡ None → AreKept i ts
all_kept i es before [] below kept = tt
all_kept i es before (t ∷ ts) below kept =
    let p = passed (target_rule i es (before ++ t ∷ []) t) (targets_rule i es (before ++ t ∷ []) ts) kept in
    let q = passed (frame_of_target i t) _ p.0 in
    let r = passed (units_of_target i t) _ q.1 in
    (record { below = below.0; frame = q.0; units = r.0 }, all_kept i es (before ++ t ∷ []) ts below.1 p.1)
