-- The last units of a stream decide which carried unit is foreign, as all of them do.
use Rattle.std.proofs.Common.{◌≡◌, ℕ, zero, suc, ◌+◌, ◌-◌, ◌≤◌, List, [], ◌∷◌, ◌++◌, length, take, drop, Some, None, Bool, true, false, refl, ap, sym, ◌∙◌, arith}
use Rattle.std.specs.Prelude.{◌&&◌, ◌↔◌, IsTrue, nat_lt, if◌then◌else◌}
use Rattle.std.proofs.lemmas.List.{take-append-drop, length-drop, length-append}
use Rattle.std.proofs.lemmas.Grind.{common_steps}
use Rattle.std.proofs.lemmas.Bool.{ltb-false, le-ltb}
use Rattle.std.proofs.lemmas.Bool.Decides.{nat_tests}
use Rattle.usac_cfg.specs.Same.{same_bit, same_bits}
use Rattle.usac_frame.specs.Units.{UnitValue}
use Rattle.splicer.specs.Foreign.{same_unit, first_different, foreign, last_n, IsDecidedByLast}

-- ---- equal units

bit_true : (a b : Bool) → same_bit a b ≡ true → a ≡ b
bit_true true true e = refl
bit_true true false e = absurd cc
bit_true false true e = absurd cc
bit_true false false e = refl

bit_itself : (a : Bool) → same_bit a a ≡ true
bit_itself true = refl
bit_itself false = refl

both : (a b : Bool) → (a && b) ≡ true → (a ≡ true) × (b ≡ true)
both true true e = (refl, refl)
both true false e = absurd (let never : false ≡ true = e in cc)
both false b e = absurd (let never : false ≡ true = e in cc)

bits_true : (s t : List Bool) → same_bits s t ≡ true → s ≡ t
bits_true [] [] e = refl
bits_true [] (b ∷ t) e = absurd (let never : false ≡ true = e in cc)
bits_true (a ∷ s) [] e = absurd (let never : false ≡ true = e in cc)
bits_true (a ∷ s) (b ∷ t) e =
    let p = both (same_bit a b) (same_bits s t) e in
    ap (λ (x : Bool). x ∷ s) (bit_true a b p.0) ∙ ap (λ (x : List Bool). b ∷ x) (bits_true s t p.1)

bits_itself : (s : List Bool) → same_bits s s ≡ true
bits_itself [] = refl
bits_itself (a ∷ s) = rw (bit_itself a) (bits_itself s)

pub unit_true : (u v : UnitValue) → same_unit u v ≡ true → u ≡ v
unfolding same_unit
unit_true u v e =
    let p = both (same_bit u.independent v.independent) (same_bits u.bits v.bits) e in
    ap (λ (b : Bool). let x : UnitValue = record { independent = b; bits = u.bits } in x) (bit_true u.independent v.independent p.0)
    ∙ ap (λ (t : List Bool). let x : UnitValue = record { independent = v.independent; bits = t } in x) (bits_true u.bits v.bits p.1)

pub unit_itself : (u : UnitValue) → same_unit u u ≡ true
unfolding same_unit
unit_itself u = rw (bit_itself u.independent) (bits_itself u.bits)

told : (b t : Bool) → (b ≡ true → t ≡ true) → (t ≡ true → b ≡ true) → b ≡ t
told true t f g = sym (f refl)
told false true f g = absurd (let e : false ≡ true = g refl in cc)
told false false f g = refl

-- what a call of the comparison answers is what the test says
pub unit_told : (b : Bool) (u v : UnitValue) → IsTrue b ↔ (u ≡ v) → b ≡ same_unit u v
unit_told b u v h = told b (same_unit u v) (λ e. ap (same_unit u) (sym (h.0 e)) ∙ unit_itself u) (λ e. h.1 (unit_true u v e))

-- ---- the last units

drop_drop : (n m : ℕ) (l : List UnitValue) → drop n (drop m l) ≡ drop (m + n) l
drop_drop n zero l = let e : 0 + n ≡ n = omega arith in rw e refl
drop_drop zero (suc m) [] = let e : suc m + 0 ≡ suc m = omega arith in rw e refl
drop_drop (suc n) (suc m) [] = let e : suc m + suc n ≡ suc (m + suc n) = omega arith in rw e refl
drop_drop n (suc m) (x ∷ l) = let e : suc m + n ≡ suc (m + n) = omega arith in rw e (drop_drop n m l)

-- for no more carried units than are kept, what is kept decides as all do
pub foreign_by_last : (n : ℕ) (before carried : List UnitValue) → length carried ≤ n → foreign (last_n n before) carried ≡ foreign before carried
foreign_by_last w before ks h =
    let long = length-drop (length before - w) before in
    let test : nat_lt (length (last_n w before)) (length ks) ≡ nat_lt (length before) (length ks) = tests (length (last_n w before)) (length before) (length ks) w h long in
    ap (λ b. if b then Some 0 else first_different 0 ks (drop (length (last_n w before) - length ks) (last_n w before))) test
    ∙ by_test (nat_lt (length before) (length ks)) refl
  where
    tests : (a m n w : ℕ) → n ≤ w → a ≡ m - (m - w) → nat_lt a n ≡ nat_lt m n
    tests a m n w h e = grind (arith, nat_tests)

    by_test : (b : Bool) → nat_lt (length before) (length ks) ≡ b
        → (if b then Some 0 else first_different 0 ks (drop (length (last_n w before) - length ks) (last_n w before))) ≡ (if b then Some 0 else first_different 0 ks (drop (length before - length ks) before))
    by_test true e = refl
    by_test false e =
        let le : length ks ≤ length before = ltb-false (length before) (length ks) e in
        let long = length-drop (length before - w) before in
        let n : (length before - w) + (length (last_n w before) - length ks) ≡ length before - length ks = omega (arith, long) in
        ap (first_different 0 ks) (drop_drop (length (last_n w before) - length ks) (length before - w) before ∙ ap (λ m. drop m before) n)

-- one unit more
pub last_n-push : (n : ℕ) (us : List UnitValue) (u : UnitValue) → last_n n (last_n n us ++ u ∷ []) ≡ last_n n (us ++ u ∷ [])
last_n-push n us u = grind (arith, common_steps)

-- ---- where none is foreign

none_different : (k : ℕ) (us vs : List UnitValue) → length us ≡ length vs → first_different k us vs ≡ None → us ≡ vs
none_different k [] [] l e = refl
none_different k [] (v ∷ vs) l e = absurd (omega arith)
none_different k (u ∷ us) [] l e = absurd (let f : Some k ≡ None = e in cc)
none_different k (u ∷ us) (v ∷ vs) l e = by_test (λ f. none_different (k + 1) us vs (omega arith) f) (same_unit u v) refl e
  where
    by_test : (first_different (k + 1) us vs ≡ None → us ≡ vs) → (b : Bool) → same_unit u v ≡ b → (if b then first_different (k + 1) us vs else Some k) ≡ None → u ∷ us ≡ v ∷ vs
    by_test rest true t e = let p = unit_true u v t in let q : us ≡ vs = rest e in cc
    by_test rest false t e = absurd (let f : Some k ≡ None = e in cc)

same_different : (k : ℕ) (us : List UnitValue) → first_different k us us ≡ None
same_different k [] = refl
same_different k (u ∷ us) = rw (unit_itself u) (same_different (k + 1) us)

ends_with : (before carried : List UnitValue) → foreign before carried ≡ None → (front : List UnitValue) × (before ≡ front ++ carried)
ends_with before ks e = by_test (nat_lt (length before) (length ks)) refl e
  where
    by_test : (b : Bool) → nat_lt (length before) (length ks) ≡ b → (if b then Some 0 else first_different 0 ks (drop (length before - length ks) before)) ≡ None → (front : List UnitValue) × (before ≡ front ++ ks)
    by_test true t e = absurd (let f : Some 0 ≡ None = e in cc)
    by_test false t e =
        let le = ltb-false (length before) (length ks) t in
        let long = length-drop (length before - length ks) before in
        let q : ks ≡ drop (length before - length ks) before = none_different 0 ks (drop (length before - length ks) before) (omega (arith, long)) e in
        (take (length before - length ks) before, sym (take-append-drop (length before - length ks) before) ∙ ap (λ us. take (length before - length ks) before ++ us) (sym q))

drop_front : (front carried : List UnitValue) → drop (length (front ++ carried) - length carried) (front ++ carried) ≡ carried
drop_front front carried = grind (arith, common_steps)

none_foreign : (front carried : List UnitValue) → foreign (front ++ carried) carried ≡ None
none_foreign front ks =
    let long = length-append front ks in
    let test : nat_lt (length (front ++ ks)) (length ks) ≡ false = le-ltb (length (front ++ ks)) (length ks) (omega (arith, long)) in
    ap (λ b. if b then Some 0 else first_different 0 ks (drop (length (front ++ ks) - length ks) (front ++ ks))) test
    ∙ (ap (first_different 0 ks) (drop_front front ks) ∙ same_different 0 ks)

pub decided_by_last : IsDecidedByLast
decided_by_last = record {
  same = foreign_by_last;
  none = λ before carried. (ends_with before carried, λ e. ap (λ us. foreign us carried) e.1 ∙ none_foreign e.0 carried);
}
