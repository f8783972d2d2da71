-- Slot lengths are read exactly.
use Rattle.std.proofs.Common.{◌≡◌, ℕ, zero, suc, ◌+◌, ◌-◌, ◌*◌, ◌/◌, ◌%◌, ◌<◌, Bool, List, [], ◌∷◌, ◌++◌, length, replicate, Result, Ok, Err, refl, sym, ap, subst, ◌∙◌, append_assoc, arith, inl, inr}
use Rattle.std.proofs.lemmas.Bool.{cases_eq, eq-eqb, ne_eqb, cases_lt}
use Rattle.std.proofs.lemmas.List.{append-nil, length-append, length-replicate}
use Rattle.bit_core.specs.declared.faults.Short.{Short}
use Rattle.layout.specs.Text.{num, bits_of}
use Rattle.layout.specs.Reader.{Reader, left, moved}
use Rattle.layout.proofs.TextLemmas.{length-num, length-bits_of}
use Rattle.layout.specs.Layout.{◌>>=◌, at_start, IsProperPrefix}
use Rattle.layout.specs.Fields.{number_field}
use Rattle.bit_core.specs.Plain.{bits, short_at}
use Rattle.layout.specs.Exact.{IsExact}
use Rattle.layout.proofs.Layouts.{bind_ok, bind_err, done, failed, ok_is, err_is, left_moved, moved_twice, field-open}
use Rattle.bit_core.proofs.PlainFacts.{bits-exact}
use Rattle.esc_value.specs.SlotLength.{slot_text, slot_step, slot_more, slot_read, slot}

-- a last byte, and a byte before others
pub text_small : (n : ℕ) → n < 255 → slot_text n ≡ num 8 n
unfolding slot_text
text_small n lt =
    let q : n / 255 ≡ 0 = omega arith in
    let m : n % 255 ≡ n = omega arith in
    rw (q, m) (append-nil (num 8 n))

pub text_more : (n : ℕ) → slot_text (255 + n) ≡ num 8 255 ++ slot_text n
unfolding slot_text
text_more n =
    let q : (255 + n) / 255 ≡ suc (n / 255) = omega arith in
    let m : (255 + n) % 255 ≡ n % 255 = omega arith in
    rw (q, m) refl

step_last : (rest : Reader → Result (ℕ × Reader) Short) (x : ℕ × Reader) → (x.0 ≡ 255 → ⊥) → slot_step rest x ≡ Ok x
step_last rest x other = rw (ne_eqb x.0 255 other) refl

step_more : (rest : Reader → Result (ℕ × Reader) Short) (x : ℕ × Reader) → x.0 ≡ 255 → slot_step rest x ≡ (rest x.1 >>= slot_more)
step_more rest x same = rw (eq-eqb x.0 255 same) refl

takes_at : (k : ℕ) (r s : Reader) (n : ℕ) → slot_read k r ≡ Ok (n, s) → (left r ≡ slot_text n ++ left s) × (s ≡ moved r (length (slot_text n)))
takes_at zero r s n e = absurd cc
takes_at (suc k) r s n e =
    let a = bind_ok ((bits 8).read r) (slot_step (slot_read k)) (n, s) e in
    let t = (bits-exact 8).takes r a.0.1 a.0.0 a.1 in
    let lt : a.0.0 < 256 = t.0.0 in
    elim (cases_eq a.0.0 255) [
      | inl same ↦
          let b = bind_ok (slot_read k a.0.1) slot_more (n, s) (sym (step_more (slot_read k) a.0 same) ∙ a.2) in
          let u = takes_at k a.0.1 b.0.1 b.0.0 b.1 in
          let made : ℕ × Reader = (255 + b.0.0, b.0.1) in
          let front : left r ≡ num 8 255 ++ left a.0.1 = t.1 ∙ ap (λ (m : ℕ). num 8 m ++ left a.0.1) same in
          let at-is : a.0.1 ≡ moved r (length (num 8 255)) = t.2 ∙ ap (λ (m : ℕ). moved r (length (num 8 m))) same in
          subst (λ (y : ℕ × Reader). (left r ≡ slot_text y.0 ++ left y.1) × (y.1 ≡ moved r (length (slot_text y.0)))) (ok_is {F = Short} made (n, s) b.2) (
            front ∙ ap (λ (x : List Bool). num 8 255 ++ x) u.0 ∙ sym (append_assoc (num 8 255) (slot_text b.0.0) (left b.0.1)) ∙ ap (λ (x : List Bool). x ++ left b.0.1) (sym (text_more b.0.0)),
            u.1 ∙ ap (λ (q : Reader). moved q (length (slot_text b.0.0))) at-is ∙ moved_twice r (num 8 255) (slot_text b.0.0) ∙ ap (λ (x : List Bool). moved r (length x)) (sym (text_more b.0.0)),
          )
      | inr other ↦
          let p = ok_is {F = Short} a.0 (n, s) (sym (step_last (slot_read k) a.0 other) ∙ a.2) in
          let small = text_small a.0.0 (omega arith) in
          subst (λ (y : ℕ × Reader). (left r ≡ slot_text y.0 ++ left y.1) × (y.1 ≡ moved r (length (slot_text y.0)))) p
          (t.1 ∙ ap (λ (x : List Bool). x ++ left a.0.1) (sym small), t.2 ∙ ap (λ (x : List Bool). moved r (length x)) (sym small))
    ]

-- enough bytes to read any length that is there
again_at : (k n : ℕ) (r : Reader) (u : List Bool) → n < 255 * k → left r ≡ slot_text n ++ u → slot_read k r ≡ Ok (n, moved r (length (slot_text n)))
again_at zero n r u lt e = absurd (omega arith)
again_at (suc k) n r u lt e =
    elim (cases_lt n 255) [
      | inl less ↦
          let small = text_small n less in
          let first = (bits-exact 8).again r n u (omega arith, refl) (e ∙ ap (λ (x : List Bool). x ++ u) small) in
          ap (λ (q : Result (ℕ × Reader) Short). q >>= slot_step (slot_read k)) first ∙ step_last (slot_read k) (n, moved r (length (num 8 n))) (λ h. omega arith) ∙ ap (λ (x : List Bool). done {F = Short} (n, moved r (length x))) (sym small)
      | inr more ↦
          let m = n - 255 in
          let k-is : 255 + m ≡ n = omega arith in
          let text : slot_text n ≡ num 8 255 ++ slot_text m = ap slot_text (sym k-is) ∙ text_more m in
          let e0 : left r ≡ num 8 255 ++ (slot_text m ++ u) = e ∙ ap (λ (x : List Bool). x ++ u) text ∙ append_assoc (num 8 255) (slot_text m) u in
          let first = (bits-exact 8).again r 255 (slot_text m ++ u) (omega arith, refl) e0 in
          let second = again_at k m (moved r (length (num 8 255))) u (omega arith) (left_moved r (num 8 255) (slot_text m ++ u) e0) in
          ap (λ (q : Result (ℕ × Reader) Short). q >>= slot_step (slot_read k)) first ∙ step_more (slot_read k) (255, moved r (length (num 8 255))) refl ∙ ap (λ (q : Result (ℕ × Reader) Short). q >>= slot_more) second
          ∙ ap (λ (i : ℕ). done {F = Short} (i, moved (moved r (length (num 8 255))) (length (slot_text m)))) k-is ∙ ap (λ (q : Reader). done {F = Short} (n, q)) (moved_twice r (num 8 255) (slot_text m) ∙ ap (λ (x : List Bool). moved r (length x)) (sym text))
    ]

text_long : (n : ℕ) → n < 255 * length (slot_text n)
unfolding slot_text bits_of
text_long n =
    let bytes = replicate (n / 255) 255 ++ (n % 255) ∷ [] in
    let len : length (slot_text n) ≡ 8 * length bytes = length-bits_of bytes in
    omega (arith, len, length-append (replicate (n / 255) 255) ((n % 255) ∷ []), length-replicate {A = ℕ} (n / 255) 255)

-- a byte that ends too soon is the front of a length
pub front_of_byte : (t : List Bool) (v : ℕ) → v < 256 → IsProperPrefix t (num 8 v) → (n : ℕ) × IsProperPrefix t (slot_text n)
front_of_byte t v lt p =
    elim (cases_eq v 255) [
      | inl same ↦ (255 + 0, (p.0, p.1 ++ slot_text 0, text_more 0 ∙ ap (λ (m : ℕ). num 8 m ++ slot_text 0) (sym same) ∙ ap (λ (x : List Bool). x ++ slot_text 0) p.2 ∙ append_assoc t (p.0 ∷ p.1) (slot_text 0)))
      | inr other ↦ (v, (p.0, p.1, text_small v (omega arith) ∙ p.2))
    ]

ends_at : (k : ℕ) (r : Reader) (f : Short) → length (left r) < k → slot_read k r ≡ Err f → (n : ℕ) × IsProperPrefix (left r) (slot_text n)
ends_at zero r f lt e = absurd (omega arith)
ends_at (suc k) r f lt e =
    elim (bind_err ((bits 8).read r) (slot_step (slot_read k)) f e) [
      | inl bad ↦
          let w = (field-open short_at (number_field 8) 0 (omega arith)).stops r.at f (left r) ((bits-exact 8).blames r f bad) in
          front_of_byte (left r) w.0 (let lt : w.0 < 256 = w.1.0 in lt) w.2
      | inr a ↦
          let t = (bits-exact 8).takes r a.0.1 a.0.0 a.1 in
          elim (cases_eq a.0.0 255) [
            | inl same ↦
                let front : left r ≡ num 8 255 ++ left a.0.1 = t.1 ∙ ap (λ (m : ℕ). num 8 m ++ left a.0.1) same in
                let shorter : length (left a.0.1) < k = omega (arith, ap (λ (x : List Bool). length x) front, length-append (num 8 255) (left a.0.1), length-num 8 255) in
                elim (bind_err (slot_read k a.0.1) slot_more f (sym (step_more (slot_read k) a.0 same) ∙ a.2)) [
                  | inl bad ↦
                      let w = ends_at k a.0.1 f shorter bad in
                      (255 + w.0, (w.1.0, w.1.1, text_more w.0 ∙ ap (λ (x : List Bool). num 8 255 ++ x) w.1.2 ∙ sym (append_assoc (num 8 255) (left a.0.1) (w.1.0 ∷ w.1.1)) ∙ ap (λ (x : List Bool). x ++ w.1.0 ∷ w.1.1) (sym front)))
                  | inr b ↦ absurd (let never = b.2 in cc)
                ]
            | inr other ↦ absurd (let never = sym (step_last (slot_read k) a.0 other) ∙ a.2 in cc)
          ]
    ]

-- a length that is read isn't the front of another length
never : (k : ℕ) (r s : Reader) (v : ℕ) → slot_read k r ≡ Ok (v, s) → (w : ℕ) → IsProperPrefix (left r) (slot_text w) → ⊥
never k r s v e w p =
    let t = takes_at k r s v e in
    let start : Reader = record { text = slot_text w; at = 0 } in
    let fuel = suc (v + w) in
    let longer : slot_text w ≡ slot_text v ++ (left s ++ p.0 ∷ p.1) = p.2 ∙ ap (λ (x : List Bool). x ++ p.0 ∷ p.1) t.0 ∙ append_assoc (slot_text v) (left s) (p.0 ∷ p.1) in
    let one = again_at fuel w start [] (omega arith) (sym (append-nil (slot_text w))) in
    let two = again_at fuel v start (left s ++ p.0 ∷ p.1) (omega arith) longer in
    let same = ok_is {F = Short} (w, moved start (length (slot_text w))) (v, moved start (length (slot_text v))) (sym one ∙ two) in
    omega (arith, ap (λ (x : ℕ × Reader). x.1.at) same, ap (λ (x : List Bool). length x) longer, length-append (slot_text v) (left s ++ p.0 ∷ p.1), length-append (left s) (p.0 ∷ p.1))

start_ok : (g : Short) (q : Result (ℕ × Reader) Short) (x : ℕ × Reader) → at_start g q ≡ Ok x → q ≡ Ok x
start_ok g (Ok y) x e = ap (λ (z : ℕ × Reader). done {F = Short} z) (ok_is {F = Short} y x e)
start_ok g (Err f) x e = absurd cc

start_err : (g d : Short) (q : Result (ℕ × Reader) Short) → at_start g q ≡ Err d → (d ≡ g) × ((f : Short) × (q ≡ Err f))
start_err g d (Ok y) e = absurd cc
start_err g d (Err f) e = (sym (err_is {A = ℕ × Reader} g d e), (f, refl))

pub slot_exact : IsExact slot
slot_exact = record {
  takes = λ r s v e. let t = takes_at (suc (length (left r))) r s v (start_ok (short_at r.at) (slot_read (suc (length (left r))) r) (v, s) e) in (tt, t.0, t.1);
  again = λ r v u fits e.
      let enough : v < 255 * suc (length (left r)) = omega (arith, text_long v, ap (λ (x : List Bool). length x) e, length-append (slot_text v) u) in
      ap (at_start (short_at r.at)) (again_at (suc (length (left r))) v r u enough e);
  blames = λ r f e.
      let p = start_err (short_at r.at) f (slot_read (suc (length (left r))) r) e in
      (p.0, ends_at (suc (length (left r))) r p.1.0 (omega arith) p.1.1);
  only = λ r f bad.
      let go : (q : Result (ℕ × Reader) Short) → slot_read (suc (length (left r))) r ≡ q → at_start (short_at r.at) q ≡ Err f = elim [
        | Ok x ↦ λ is. absurd (never (suc (length (left r))) r x.1 x.0 is bad.1.0 bad.1.1)
        | Err d ↦ λ is. ap (λ (d : Short). failed {A = ℕ × Reader} d) (sym bad.0)
      ] in
      go (slot_read (suc (length (left r))) r) refl;
}
