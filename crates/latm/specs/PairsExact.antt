-- Pairs are read exactly.
use Rattle.std.proofs.Common.{◌≡◌, ℕ, zero, suc, ◌+◌, ◌-◌, ◌*◌, ◌/◌, ◌%◌, ◌^◌, ◌<◌, ◌≤◌, Bool, true, false, List, [], ◌∷◌, ◌++◌, length, Result, Ok, Err, refl, sym, ap, subst, ◌∙◌, append_assoc, arith, inl, inr}
use Rattle.std.specs.Prelude.{◌⊎◌}
use Rattle.std.proofs.lemmas.Bool.{cases_lt, le-ltb, lt-ltb}
use Rattle.std.proofs.lemmas.List.{append-nil, length-append}
use Rattle.bit_core.specs.declared.faults.Short.{Short}
use Rattle.layout.specs.Text.{num}
use Rattle.layout.specs.Reader.{Reader, left, moved}
use Rattle.layout.specs.Layout.{◌>>=◌, at_start, IsProperPrefix}
use Rattle.layout.specs.Fields.{number_field, flag_field}
use Rattle.layout.specs.Exact.{IsExact, IsOpen}
use Rattle.layout.proofs.Layouts.{bind_ok, bind_err, done, failed, ok_is, err_is, left_moved, moved_twice, both-exact, both-open, field-open}
use Rattle.bit_core.specs.Plain.{bits, short_at}
use Rattle.bit_core.proofs.PlainFacts.{bits-exact, bit-exact}
use Rattle.latm.specs.declared.pairs.Run.{Run}
use Rattle.latm.specs.Pairs.{pair, more_text, run_text, IsRun, is_last, run_step, run_read, run}

pub pair-exact : IsExact pair
pair-exact = both-exact _ _ bit-exact (λ _. bits-exact 8)

pub pair-open : IsOpen pair
pair-open = both-open _ _ (field-open short_at flag_field true tt) (λ _. field-open short_at (number_field 8) 0 (omega arith))

abbrev pub run_of : ℕ → ℕ → Bool → Run
run_of count bits more = record { count = count; bits = bits; more = more }

-- the number behind one more byte
abbrev pub then_byte : ℕ → ℕ → ℕ
then_byte v b = v * 256 + b

pub more_text_suc : (n v b : ℕ) → b < 256 → more_text (suc n) (v * 256 + b) ≡ more_text n v ++ true ∷ num 8 b
unfolding more_text
more_text_suc n v b lt =
    let q : (v * 256 + b) / 256 ≡ v = omega arith in
    let m : (v * 256 + b) % 256 ≡ b = omega arith in
    rw (q, m) refl

pub more_text_peel : (n v : ℕ) → more_text (suc n) v ≡ more_text n (v / 256) ++ true ∷ num 8 (v % 256)
unfolding more_text
more_text_peel n v = refl

pub more_text_none : (v : ℕ) → more_text 0 v ≡ []
unfolding more_text
more_text_none v = refl

pub run_text_of : (c v b : ℕ) (more : Bool) → b < 256 → run_text (run_of (c + 1) (v * 256 + b) more) ≡ more_text c v ++ more ∷ num 8 b
run_text_of c v b more lt =
    let q : (v * 256 + b) / 256 ≡ v = omega arith in
    let m : (v * 256 + b) % 256 ≡ b = omega arith in
    let k : c + 1 - 1 ≡ c = omega arith in
    rw (q, m, k) refl

-- where a run ends, and where it goes on
pub last_cases : (more : Bool) (n : ℕ) → ((is_last more n ≡ true) × (more ≡ true → 65535 < n)) ⊎ ((is_last more n ≡ false) × (more ≡ true) × (n ≤ 65535))
last_cases true n =
    elim (cases_lt 65535 n) [
      | inl lt ↦ inl (rw (lt-ltb 65535 n lt) refl, λ _. lt)
      | inr le ↦ inr (rw (le-ltb 65535 n le) refl, refl, le)
    ]
last_cases false n =
    elim (cases_lt 65535 n) [
      | inl lt ↦ inl (rw (lt-ltb 65535 n lt) refl, λ _. lt)
      | inr le ↦ inl (rw (le-ltb 65535 n le) refl, λ e. absurd cc)
    ]

pub step_last : (others : ℕ → ℕ → Reader → Result (Run × Reader) Short) (c v : ℕ) (more : Bool) (b : ℕ) (r : Reader) → is_last more (v * 256 + b) ≡ true → run_step others c v ((more, b), r) ≡ Ok (run_of (c + 1) (v * 256 + b) more, r)
step_last others c v more b r is = rw is refl

pub step_more : (others : ℕ → ℕ → Reader → Result (Run × Reader) Short) (c v : ℕ) (more : Bool) (b : ℕ) (r : Reader) → is_last more (v * 256 + b) ≡ false → run_step others c v ((more, b), r) ≡ others (c + 1) (v * 256 + b) r
step_more others c v more b r is = rw is refl

power_more : (c v b : ℕ) → v < 256 ^ c → b < 256 → v * 256 + b < 256 ^ (c + 1)
power_more c v b lt small =
    let k : c + 1 ≡ suc c = omega arith in
    let p : 256 ^ suc c ≡ 256 ^ c * 256 = omega arith in
    rw (k, p) (omega arith)

-- a run that ends with this byte
pub is_run_of : (c v b : ℕ) (more : Bool) → v < 256 ^ c → v ≤ 65535 → b < 256 → (more ≡ true → 65535 < v * 256 + b) → IsRun (run_of (c + 1) (v * 256 + b) more)
is_run_of c v b more lt le small last =
    let q : (v * 256 + b) / 256 ≡ v = omega arith in
    record { some = omega arith; held = power_more c v b lt small; before = rw q le; last = last }

-- what stands behind the pairs so far
record Behind (c v : ℕ) (w : Run) : Type 0 where
  pub text : List Bool
  pub spelled : run_text w ≡ more_text c v ++ text
  pub is_run : IsRun w

more_behind : (c v b : ℕ) (w : Run) → b < 256 → Behind (c + 1) (v * 256 + b) w → Behind c v w
more_behind c v b w lt h =
    let k : c + 1 ≡ suc c = omega arith in
    record {
      text = true ∷ num 8 b ++ h.text;
      spelled = h.spelled ∙ ap (λ (n : ℕ). more_text n (v * 256 + b) ++ h.text) k ∙ ap (λ (t : List Bool). t ++ h.text) (more_text_suc c v b lt) ∙ append_assoc (more_text c v) (true ∷ num 8 b) h.text;
      is_run = h.is_run;
    }

takes_at : (k c v : ℕ) (r s : Reader) (w : Run) → v < 256 ^ c → v ≤ 65535 → run_read k c v r ≡ Ok (w, s)
    → (h : Behind c v w) × (left r ≡ h.text ++ left s) × (s ≡ moved r (length h.text))
unfolding more_behind
takes_at zero c v r s w lt le e = absurd cc
takes_at (suc k) c v r s w lt le e =
    let a = bind_ok (pair.read r) (run_step (run_read k) c v) (w, s) e in
    let more = a.0.0.0 in
    let b = a.0.0.1 in
    let t = pair-exact.takes r a.0.1 a.0.0 a.1 in
    let small : b < 256 = t.0.1.0 in
    elim (last_cases more (v * 256 + b)) [
      | inl stop ↦
          let p = ok_is {F = Short} (run_of (c + 1) (v * 256 + b) more, a.0.1) (w, s) (sym (step_last (run_read k) c v more b a.0.1 stop.0) ∙ a.2) in
          let text : List Bool = more ∷ num 8 b in
          let h : Behind c v (run_of (c + 1) (v * 256 + b) more) = record { text = text; spelled = run_text_of c v b more small; is_run = is_run_of c v b more lt le small stop.1 } in
          subst (λ (y : Run × Reader). (h : Behind c v y.0) × (left r ≡ h.text ++ left y.1) × (y.1 ≡ moved r (length h.text))) p (h, t.1, t.2)
      | inr on ↦
          let u = takes_at k (c + 1) (v * 256 + b) a.0.1 s w (power_more c v b lt small) on.2 (sym (step_more (run_read k) c v more b a.0.1 on.0) ∙ a.2) in
          let h = more_behind c v b w small u.0 in
          let front : left r ≡ (true ∷ num 8 b) ++ left a.0.1 = t.1 ∙ ap (λ (m : Bool). m ∷ num 8 b ++ left a.0.1) on.1 in
          let at-is : a.0.1 ≡ moved r (length (true ∷ num 8 b)) = t.2 in (
            h,
            front ∙ ap (λ (x : List Bool). (true ∷ num 8 b) ++ x) u.1 ∙ sym (append_assoc (true ∷ num 8 b) u.0.text (left s)),
            u.2 ∙ ap (λ (q : Reader). moved q (length u.0.text)) at-is ∙ moved_twice r (true ∷ num 8 b) u.0.text,
          )
    ]

-- the pairs before a pair are read one after another
reaches : (c k v : ℕ) (r : Reader) (u : List Bool) → v ≤ 65535 → v < 256 ^ c → left r ≡ more_text c v ++ u → run_read (k + c) 0 0 r ≡ run_read k c v (moved r (length (more_text c v)))
reaches zero k v r u le lt e =
    let v-is : v ≡ 0 = omega arith in
    let k-is : k + 0 ≡ k = omega arith in
    let at-is : r.at + 0 ≡ r.at = omega arith in
    rw (more_text_none, v-is, k-is, at-is) refl
reaches (suc c) k v r u le lt e =
    let b = v % 256 in
    let q = v / 256 in
    let small : b < 256 = omega arith in
    let v-is : q * 256 + b ≡ v = omega arith in
    let k-is : k + suc c ≡ suc k + c = omega arith in
    let c-is : c + 1 ≡ suc c = omega arith in
    let last : List Bool = true ∷ num 8 b in
    let e0 : left r ≡ more_text c q ++ (last ++ u) = e ∙ ap (λ (t : List Bool). t ++ u) (more_text_peel c v) ∙ append_assoc (more_text c q) last u in
    let p : 256 ^ suc c ≡ 256 ^ c * 256 = omega arith in
    let q-lt : q < 256 ^ c = omega arith in
    let so_far = reaches c (suc k) q r (last ++ u) (omega arith) q-lt e0 in
    let mid = moved r (length (more_text c q)) in
    let here = left_moved r (more_text c q) (last ++ u) e0 in
    let first = pair-exact.again mid (true, b) u ((tt, refl), (small, refl)) here in
    let not_last : is_last true (q * 256 + b) ≡ false = rw (v-is, le-ltb 65535 v le) refl in
    let behind = moved mid (length last) in
    let behind-is : behind ≡ moved r (length (more_text (suc c) v)) = moved_twice r (more_text c q) last ∙ ap (λ (t : List Bool). moved r (length t)) (sym (more_text_peel c v)) in
    ap (λ (n : ℕ). run_read n 0 0 r) k-is ∙ so_far ∙ ap (λ (z : Result ((Bool × ℕ) × Reader) Short). z >>= run_step (run_read k) c q) first ∙ step_more (run_read k) c q true b behind not_last
    ∙ ap (λ (n : ℕ). run_read k n (q * 256 + b) behind) c-is ∙ ap (λ (n : ℕ). run_read k (suc c) n behind) v-is ∙ ap (λ (s : Reader). run_read k (suc c) v s) behind-is

more_text_long : (n v : ℕ) → n ≤ length (more_text n v)
more_text_long zero v = omega arith
more_text_long (suc n) v = omega (arith, more_text_long n (v / 256), ap (λ (t : List Bool). length t) (more_text_peel n v), length-append (more_text n (v / 256)) (true ∷ num 8 (v % 256)))

-- whether the last pair of a run is the last by itself
last_of : (more : Bool) (n : ℕ) → (more ≡ true → 65535 < n) → is_last more n ≡ true
last_of more n last =
    elim (last_cases more n) [
      | inl stop ↦ stop.0
      | inr on ↦ absurd (let over = last on.1 in let le = on.2 in omega arith)
    ]

again_at : (c k v : ℕ) (more : Bool) (r : Reader) (u : List Bool) → IsRun (run_of (suc c) v more) → left r ≡ run_text (run_of (suc c) v more) ++ u
    → run_read (suc k + c) 0 0 r ≡ Ok (run_of (suc c) v more, moved r (length (run_text (run_of (suc c) v more))))
again_at c k v more r u is e =
    let b = v % 256 in
    let q = v / 256 in
    let small : b < 256 = omega arith in
    let v-is : q * 256 + b ≡ v = omega arith in
    let c-is : c + 1 ≡ suc c = omega arith in
    let one-is : suc c - 1 ≡ c = omega arith in
    let last : List Bool = more ∷ num 8 b in
    let text : run_text (run_of (suc c) v more) ≡ more_text c q ++ last = ap (λ (n : ℕ). more_text n q ++ last) one-is in
    let e0 : left r ≡ more_text c q ++ (last ++ u) = e ∙ ap (λ (t : List Bool). t ++ u) text ∙ append_assoc (more_text c q) last u in
    let p : 256 ^ suc c ≡ 256 ^ c * 256 = omega arith in
    let held = is.held in
    let q-lt : q < 256 ^ c = omega arith in
    let so_far = reaches c (suc k) q r (last ++ u) is.before q-lt e0 in
    let mid = moved r (length (more_text c q)) in
    let here = left_moved r (more_text c q) (last ++ u) e0 in
    let first = pair-exact.again mid (more, b) u ((tt, refl), (small, refl)) here in
    let stop : is_last more (q * 256 + b) ≡ true = rw v-is (last_of more v is.last) in
    let behind = moved mid (length last) in
    let behind-is : behind ≡ moved r (length (run_text (run_of (suc c) v more))) = moved_twice r (more_text c q) last ∙ ap (λ (t : List Bool). moved r (length t)) (sym text) in
    so_far ∙ ap (λ (z : Result ((Bool × ℕ) × Reader) Short). z >>= run_step (run_read k) c q) first ∙ step_last (run_read k) c q more b behind stop
    ∙ ap (λ (n : ℕ). done {F = Short} (run_of n (q * 256 + b) more, behind)) c-is ∙ ap (λ (n : ℕ). done {F = Short} (run_of (suc c) n more, behind)) v-is ∙ ap (λ (s : Reader). done {F = Short} (run_of (suc c) v more, s)) behind-is

again_by : (n k v : ℕ) (more : Bool) (r : Reader) (u : List Bool) → n ≤ k → IsRun (run_of n v more) → left r ≡ run_text (run_of n v more) ++ u
    → run_read k 0 0 r ≡ Ok (run_of n v more, moved r (length (run_text (run_of n v more))))
again_by zero k v more r u le is e = absurd (let some = is.some in omega arith)
again_by (suc c) k v more r u le is e =
    let k-is : k ≡ suc (k - suc c) + c = omega arith in
    ap (λ (n : ℕ). run_read n 0 0 r) k-is ∙ again_at c (k - suc c) v more r u is e

run_long : (w : Run) → w.count ≤ length (run_text w)
run_long w = omega (arith, more_text_long (w.count - 1) (w.bits / 256), length-append (more_text (w.count - 1) (w.bits / 256)) (w.more ∷ num 8 (w.bits % 256)))

-- the pairs so far, and a text that ends within a run
abbrev Stops : ℕ → ℕ → List Bool → Type 0
Stops c v t = (w : Run) × (h : Behind c v w) × IsProperPrefix t h.text

-- a text that ends within a pair
stops_in_pair : (c v : ℕ) (t : List Bool) (more : Bool) (b : ℕ) → v < 256 ^ c → v ≤ 65535 → b < 256 → IsProperPrefix t (more ∷ num 8 b) → Stops c v t
unfolding more_behind
stops_in_pair c v t more b lt le small p =
    elim (last_cases more (v * 256 + b)) [
      | inl stop ↦
          let h : Behind c v (run_of (c + 1) (v * 256 + b) more) = record { text = more ∷ num 8 b; spelled = run_text_of c v b more small; is_run = is_run_of c v b more lt le small stop.1 } in
          (run_of (c + 1) (v * 256 + b) more, h, p)
      | inr on ↦
          let w = run_of (c + 1 + 1) ((v * 256 + b) * 256 + 0) false in
          let last : List Bool = false ∷ num 8 0 in
          let h1 : Behind (c + 1) (v * 256 + b) w = record { text = last; spelled = run_text_of (c + 1) (v * 256 + b) 0 false (omega arith); is_run = is_run_of (c + 1) (v * 256 + b) 0 false (power_more c v b lt small) on.2 (omega arith) (λ e. absurd cc) } in
          let h = more_behind c v b w small h1 in
          (w, h, (p.0, p.1 ++ last, ap (λ (x : List Bool). x ++ last) (ap (λ (m : Bool). m ∷ num 8 b) (sym on.1) ∙ p.2) ∙ append_assoc t (p.0 ∷ p.1) last))
    ]

ends_at : (k c v : ℕ) (r : Reader) (f : Short) → v < 256 ^ c → v ≤ 65535 → length (left r) < k → run_read k c v r ≡ Err f → Stops c v (left r)
unfolding more_behind
ends_at zero c v r f lt le shorter e = absurd (omega arith)
ends_at (suc k) c v r f lt le shorter e =
    elim (bind_err (pair.read r) (run_step (run_read k) c v) f e) [
      | inl bad ↦
          let w = pair-open.stops r.at f (left r) (pair-exact.blames r f bad) in
          stops_in_pair c v (left r) w.0.0 w.0.1 lt le (let small : w.0.1 < 256 = w.1.1.0 in small) w.2
      | inr a ↦
          let more = a.0.0.0 in
          let b = a.0.0.1 in
          let t = pair-exact.takes r a.0.1 a.0.0 a.1 in
          let small : b < 256 = t.0.1.0 in
          elim (last_cases more (v * 256 + b)) [
            | inl stop ↦ absurd (let never = sym (step_last (run_read k) c v more b a.0.1 stop.0) ∙ a.2 in cc)
            | inr on ↦
                let first : List Bool = true ∷ num 8 b in
                let front : left r ≡ first ++ left a.0.1 = t.1 ∙ ap (λ (m : Bool). m ∷ num 8 b ++ left a.0.1) on.1 in
                let fewer : length (left a.0.1) < k = omega (arith, ap (λ (x : List Bool). length x) front, length-append first (left a.0.1)) in
                let w = ends_at k (c + 1) (v * 256 + b) a.0.1 f (power_more c v b lt small) on.2 fewer (sym (step_more (run_read k) c v more b a.0.1 on.0) ∙ a.2) in
                let p = w.2 in
                (w.0, more_behind c v b w.0 small w.1, (p.0, p.1, ap (λ (x : List Bool). first ++ x) p.2 ∙ sym (append_assoc first (left a.0.1) (p.0 ∷ p.1)) ∙ ap (λ (x : List Bool). x ++ p.0 ∷ p.1) (sym front)))
          ]
    ]

-- no pairs so far
all_behind : (w : Run) (h : Behind 0 0 w) → run_text w ≡ h.text
all_behind w h = h.spelled ∙ ap (λ (t : List Bool). t ++ h.text) (more_text_none 0)

takes_all : (k : ℕ) (r s : Reader) (w : Run) → run_read k 0 0 r ≡ Ok (w, s) → IsRun w × (left r ≡ run_text w ++ left s) × (s ≡ moved r (length (run_text w)))
takes_all k r s w e =
    let t = takes_at k 0 0 r s w (omega arith) (omega arith) e in
    let same = all_behind w t.0 in
    (t.0.is_run, t.1 ∙ ap (λ (x : List Bool). x ++ left s) (sym same), t.2 ∙ ap (λ (x : List Bool). moved r (length x)) (sym same))

-- a run that is read isn't the front of another one
never : (k : ℕ) (r s : Reader) (v : Run) → run_read k 0 0 r ≡ Ok (v, s) → (w : Run) → IsRun w → IsProperPrefix (left r) (run_text w) → ⊥
never k r s v e w is p =
    let t = takes_all k r s v e in
    let start : Reader = record { text = run_text w; at = 0 } in
    let fuel = v.count + w.count in
    let longer : run_text w ≡ run_text v ++ (left s ++ p.0 ∷ p.1) = p.2 ∙ ap (λ (x : List Bool). x ++ p.0 ∷ p.1) t.1 ∙ append_assoc (run_text v) (left s) (p.0 ∷ p.1) in
    let one = again_by w.count fuel w.bits w.more start [] (omega arith) is (sym (append-nil (run_text w))) in
    let two = again_by v.count fuel v.bits v.more start (left s ++ p.0 ∷ p.1) (omega arith) t.0 longer in
    let same = ok_is {F = Short} (w, moved start (length (run_text w))) (v, moved start (length (run_text v))) (sym one ∙ two) in
    omega (arith, ap (λ (x : Run × Reader). x.1.at) same, ap (λ (x : List Bool). length x) longer, length-append (run_text v) (left s ++ p.0 ∷ p.1), length-append (left s) (p.0 ∷ p.1))

start_ok : (g : Short) (q : Result (Run × Reader) Short) (x : Run × Reader) → at_start g q ≡ Ok x → q ≡ Ok x
start_ok g (Ok y) x e = ap (λ (z : Run × Reader). done {F = Short} z) (ok_is {F = Short} y x e)
start_ok g (Err f) x e = absurd cc

start_err : (g d : Short) (q : Result (Run × Reader) Short) → at_start g q ≡ Err d → (d ≡ g) × ((f : Short) × (q ≡ Err f))
start_err g d (Ok y) e = absurd cc
start_err g d (Err f) e = (sym (err_is {A = Run × Reader} g d e), (f, refl))

pub run_exact : IsExact run
run_exact = record {
  takes = λ r s w e. takes_all (suc (length (left r))) r s w (start_ok (short_at r.at) (run_read (suc (length (left r))) 0 0 r) (w, s) e);
  again = λ r w u fits e.
      let enough : w.count ≤ suc (length (left r)) = omega (arith, run_long w, ap (λ (x : List Bool). length x) e, length-append (run_text w) u) in
      ap (at_start (short_at r.at)) (again_by w.count (suc (length (left r))) w.bits w.more r u enough fits e);
  blames = λ r f e.
      let p = start_err (short_at r.at) f (run_read (suc (length (left r))) 0 0 r) e in
      let w = ends_at (suc (length (left r))) 0 0 r p.1.0 (omega arith) (omega arith) (omega arith) p.1.1 in
      (p.0, (w.0, w.1.is_run, (w.2.0, w.2.1, all_behind w.0 w.1 ∙ w.2.2)));
  only = λ r f bad.
      let go : (q : Result (Run × Reader) Short) → run_read (suc (length (left r))) 0 0 r ≡ q → at_start (short_at r.at) q ≡ Err f = elim [
        | Ok x ↦ λ is. absurd (never (suc (length (left r))) r x.1 x.0 is bad.1.0 bad.1.1 bad.1.2)
        | Err d ↦ λ is. ap (λ (d : Short). failed {A = Run × Reader} d) (sym bad.0)
      ] in
      go (run_read (suc (length (left r))) 0 0 r) refl;
}
