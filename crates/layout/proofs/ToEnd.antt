-- Layouts that take all of a text.
use Rattle.std.proofs.Common.{◌≡◌, ℕ, ◌+◌, ◌<◌, ◌≤◌, Bool, List, ◌++◌, length, take, drop, Result, Ok, Err, refl, sym, ap, subst, ◌∙◌, arith, inl, inr}
use Rattle.std.specs.Prelude.{◌⊎◌, OnErr}
use Rattle.std.proofs.lemmas.Bool.{cases_lt, le-ltb, lt-ltb}
use Rattle.std.proofs.lemmas.List.{length-append, length-take, take-append-drop, drop-take, take_at}
use Rattle.layout.specs.Exact.{IsExact, IsExactToEnd}
use Rattle.layout.specs.Layout.{◌>>=◌, Layout, both, shaped, fitted}
use Rattle.layout.specs.Reader.{Reader, left, moved}
use Rattle.layout.specs.Laws.{Begins, IsDecided}
use Rattle.layout.specs.Reading.{GivesUnless, ReadsAllUnless}
use Rattle.layout.specs.ToEnd.{rest, tail, tail_read, inside, inside_read, window, back_out}
use Rattle.layout.proofs.Layouts.{bind_ok, bind_err, done, failed, ok_is, err_is, left_moved, moved_twice, not_free}

pub rest-to_end : {F : Type 0} → IsExactToEnd (rest {F = F})
rest-to_end {F} = record {
  takes = λ r s v e.
      let p = ok_is {F = F} (left r, moved r (length (left r))) (v, s) e in
      let v-is : left r ≡ v = ap (λ (x : List Bool × Reader). x.0) p in
      (tt, v-is, sym (ap (λ (x : List Bool × Reader). x.1) p) ∙ ap (λ (t : List Bool). moved r (length t)) v-is);
  again = λ r v fits e. ap (λ (t : List Bool). done {F = F} (t, moved r (length t))) e;
  blames = λ r f e. absurd cc;
  only = λ r f bad. absurd bad;
}

pub both-to_end : {A B F : Type 0} (H : Layout A F) (K : A → Layout B F) → IsExact H → ((a : A) → IsExactToEnd (K a)) → IsExactToEnd (both H K)
both-to_end {A} {B} {F} H K h k = record {
  takes = λ r s v e.
      let a = bind_ok (H.read r) (λ x. (K x.0).read x.1 >>= λ y. Ok ((x.0, y.0), y.1)) (v, s) e in
      let b = bind_ok ((K a.0.0).read a.0.1) (λ y. Ok ((a.0.0, y.0), y.1)) (v, s) a.2 in
      let t0 = h.takes r a.0.1 a.0.0 a.1 in
      let t1 = (k a.0.0).takes a.0.1 b.0.1 b.0.0 b.1 in
      let s0 = H.spelling a.0.0 in
      let s1 = (K a.0.0).spelling b.0.0 in
      let made : (A × B) × Reader = ((a.0.0, b.0.0), b.0.1) in
      let L = both H K in
      subst (λ (y : (A × B) × Reader). L.Fits y.0 × (left r ≡ L.spelling y.0) × (y.1 ≡ moved r (length (L.spelling y.0)))) (ok_is {F = F} made (v, s) b.2)
      ((t0.0, t1.0), t0.1 ∙ ap (λ (t : List Bool). s0 ++ t) t1.1, t1.2 ∙ ap (λ (q : Reader). moved q (length s1)) t0.2 ∙ moved_twice r s0 s1);
  again = λ r v fits e.
      let s0 = H.spelling v.0 in
      let s1 = (K v.0).spelling v.1 in
      let first = h.again r v.0 s1 fits.0 e in
      let second = (k v.0).again (moved r (length s0)) v.1 fits.1 (left_moved r s0 s1 e) in
      rw (first, second) (ap (λ (q : Reader). done {F = F} (v, q)) (moved_twice r s0 s1));
  blames = λ r f e.
      elim (bind_err (H.read r) (λ x. (K x.0).read x.1 >>= λ y. Ok ((x.0, y.0), y.1)) f e) [
        | inl bad ↦ inl (h.blames r f bad)
        | inr a ↦
            let t0 = h.takes r a.0.1 a.0.0 a.1 in
            elim (bind_err ((K a.0.0).read a.0.1) (λ y. Ok ((a.0.0, y.0), y.1)) f a.2) [
              | inl bad ↦ inr (a.0.0, left a.0.1, t0.0, t0.1, subst (λ (n : ℕ). (K a.0.0).Faults n f (left a.0.1)) (ap (λ (q : Reader). q.at) t0.2) ((k a.0.0).blames a.0.1 f bad))
              | inr b ↦ absurd (let never = b.2 in cc)
            ]
      ];
  only = λ r f bad.
      elim bad [
        | inl b ↦ rw (h.only r f b) refl
        | inr w ↦
            let s0 = H.spelling w.0 in
            let first = h.again r w.0 w.1 w.2 w.3 in
            let there = subst (λ (t : List Bool). (K w.0).Faults (r.at + length s0) f t) (sym (left_moved r s0 w.1 w.3)) w.4 in
            rw (first, (k w.0).only (moved r (length s0)) f there) refl
      ];
}

pub shaped-to_end : {A B F : Type 0} (parts : B → A) (made : A → B) (H : Layout A F) → IsExactToEnd H → ((a : A) → H.Fits a → parts (made a) ≡ a) → ((b : B) → H.Fits (parts b) → made (parts b) ≡ b) → IsExactToEnd (shaped parts made H)
shaped-to_end {A} {B} {F} parts made H h back there = record {
  takes = λ r s v e.
      let a = bind_ok (H.read r) (λ x. Ok (made x.0, x.1)) (v, s) e in
      let t = h.takes r a.0.1 a.0.0 a.1 in
      let made_is : B × Reader = (made a.0.0, a.0.1) in
      let L = shaped parts made H in
      subst (λ (y : B × Reader). L.Fits y.0 × (left r ≡ L.spelling y.0) × (y.1 ≡ moved r (length (L.spelling y.0)))) (ok_is {F = F} made_is (v, s) a.2)
      (rw (back a.0.0 t.0) t);
  again = λ r v fits e. rw (h.again r (parts v) fits e, there v fits) refl;
  blames = λ r f e.
      elim (bind_err (H.read r) (λ x. Ok (made x.0, x.1)) f e) [
        | inl bad ↦ h.blames r f bad
        | inr a ↦ absurd (let never = a.2 in cc)
      ];
  only = λ r f bad. rw (h.only r f bad) refl;
}

-- what is made of parts that fit does fit, and what fits is made of its parts
pub fitted-to_end : {A B F : Type 0} (fits : B → Type 0) (parts : B → A) (made : A → B) (H : Layout A F) → IsExactToEnd H
    → ((a : A) → H.Fits a → parts (made a) ≡ a) → ((a : A) → H.Fits a → fits (made a)) → ((b : B) → fits b → H.Fits (parts b) × (made (parts b) ≡ b)) → IsExactToEnd (fitted fits parts made H)
fitted-to_end {A} {B} {F} fits parts made H h back good there = record {
  takes = λ r s v e.
      let a = bind_ok (H.read r) (λ x. Ok (made x.0, x.1)) (v, s) e in
      let t = h.takes r a.0.1 a.0.0 a.1 in
      let made_is : B × Reader = (made a.0.0, a.0.1) in
      let L = fitted fits parts made H in
      subst (λ (y : B × Reader). L.Fits y.0 × (left r ≡ L.spelling y.0) × (y.1 ≡ moved r (length (L.spelling y.0)))) (ok_is {F = F} made_is (v, s) a.2)
      (rw (back a.0.0 t.0) (good a.0.0 t.0, t.1, t.2));
  again = λ r v fit e. let f = there v fit in rw (h.again r (parts v) f.0 e, f.1) refl;
  blames = λ r f e.
      elim (bind_err (H.read r) (λ x. Ok (made x.0, x.1)) f e) [
        | inl bad ↦ h.blames r f bad
        | inr a ↦ absurd (let never = a.2 in cc)
      ];
  only = λ r f bad. rw (h.only r f bad) refl;
}

-- the same layout in other words
pub same-to_end : {A F : Type 0} (L M : Layout A F) → IsExactToEnd L → ((v : A) → M.Fits v → L.Fits v × (M.spelling v ≡ L.spelling v)) → ((v : A) → L.Fits v → M.Fits v × (M.spelling v ≡ L.spelling v)) → ((r : Reader) → M.read r ≡ L.read r)
    → ((at : ℕ) (f : F) (t : List Bool) → M.Faults at f t → L.Faults at f t) → ((at : ℕ) (f : F) (t : List Bool) → L.Faults at f t → M.Faults at f t) → IsExactToEnd M
same-to_end {A} {F} L M l to from read to_fault from_fault = record {
  takes = λ r s v e.
      let t = l.takes r s v (sym (read r) ∙ e) in
      let m = from v t.0 in
      (m.0, t.1 ∙ sym m.1, t.2 ∙ ap (λ (x : List Bool). moved r (length x)) (sym m.1));
  again = λ r v fits e.
      let m = to v fits in
      read r ∙ l.again r v m.0 (e ∙ m.1) ∙ ap (λ (x : List Bool). done {F = F} (v, moved r (length x))) (sym m.1);
  blames = λ r f e. from_fault r.at f (left r) (l.blames r f (sym (read r) ∙ e));
  only = λ r f bad. read r ∙ l.only r f (to_fault r.at f (left r) bad);
}

-- what a call that reads to the end promises
pub reads_all_unless : {A F : Type 0} (free : F → Bool) (L : Layout A F) → IsExactToEnd L → (old new : Reader) (r : Result A F) → GivesUnless free L old new r → OnErr r (new ≡ old) → ReadsAllUnless free L old new r
reads_all_unless {A} {F} free L l old new (Ok v) gives back = record {
  found = l.takes old new v gives.0;
  only = λ w fits e.
      let p = ok_is {F = F} (v, new) (w, moved old (length (L.spelling w))) (sym gives.0 ∙ l.again old w fits e) in
      (tt, ap (λ (x : A × Reader). x.0) p);
  fault = tt;
  first = λ f bad. absurd (let never = l.only old f bad in cc);
  unchanged = tt;
}
reads_all_unless {A} {F} free L l old new (Err f) gives back = record {
  found = tt;
  only = λ w fits e. (not_free (free f) (λ h. absurd (let never = l.again old w fits e in let is = gives.0 h in cc)), tt);
  fault = λ h. l.blames old f (gives.0 h);
  first = λ g bad. λ h. err_is {A = A × Reader} f g (sym (gives.0 h) ∙ l.only old g bad);
  unchanged = back;
}

pub all_unless_back : {A F : Type 0} (free : F → Bool) (L : Layout A F) → IsExactToEnd L → (old middle new : Reader) (f : F) (start : ℕ) → GivesUnless free L old middle (Err f) → start ≡ old.at → new ≡ record { text = middle.text; at = start } → ReadsAllUnless free L old new (Err f)
all_unless_back free L l old middle new f start gives here back =
    let same : new ≡ old = back ∙ ap (λ (n : ℕ). let m : Reader = record { text = middle.text; at = n } in m) here ∙ ap (λ (t : List Bool). let m : Reader = record { text = t; at = old.at } in m) gives.1.0 in
    reads_all_unless free L l old new (Err f) (gives.0, (ap (λ (q : Reader). q.text) same, omega (arith, ap (λ (q : Reader). q.at) same))) same

tail_fits : {F : Type 0} (too_long : ℕ → F) (n : ℕ) (r : Reader) → length (left r) ≤ n → tail_read too_long n r ≡ Ok (left r, moved r (length (left r)))
tail_fits too_long n r le = rw (le-ltb n (length (left r)) le) refl

tail_over : {F : Type 0} (too_long : ℕ → F) (n : ℕ) (r : Reader) → n < length (left r) → tail_read too_long n r ≡ Err (too_long r.at)
tail_over too_long n r lt = rw (lt-ltb n (length (left r)) lt) refl

pub tail-to_end : {F : Type 0} (too_long : ℕ → F) (n : ℕ) → IsExactToEnd (tail too_long n)
tail-to_end {F} too_long n = record {
  takes = λ r s v e.
      elim (cases_lt n (length (left r))) [
        | inl over ↦ absurd (let never = tail_over too_long n r over in cc)
        | inr le ↦
            let p = ok_is {F = F} (left r, moved r (length (left r))) (v, s) (sym (tail_fits too_long n r le) ∙ e) in
            let v-is : left r ≡ v = ap (λ (x : List Bool × Reader). x.0) p in
            (subst (λ (t : List Bool). length t ≤ n) v-is le, v-is, sym (ap (λ (x : List Bool × Reader). x.1) p) ∙ ap (λ (t : List Bool). moved r (length t)) v-is)
      ];
  again = λ r v fits e. tail_fits too_long n r (subst (λ (t : List Bool). length t ≤ n) (sym e) fits) ∙ ap (λ (t : List Bool). done {F = F} (t, moved r (length t))) e;
  blames = λ r f e.
      elim (cases_lt n (length (left r))) [
        | inl over ↦ (sym (err_is {A = List Bool × Reader} (too_long r.at) f (sym (tail_over too_long n r over) ∙ e)), over)
        | inr le ↦ absurd (let never = tail_fits too_long n r le in cc)
      ];
  only = λ r f bad. tail_over too_long n r bad.1 ∙ ap (λ (d : F). failed {A = List Bool × Reader} d) (sym bad.0);
}

-- what is left in a window
pub left-window : (r : Reader) (n : ℕ) → left (window r n) ≡ take n (left r)
left-window r n = drop-take r.at n r.text

inside_short : {A F : Type 0} (short : ℕ → F) (n : ℕ) (H : Layout A F) (r : Reader) → length (left r) < n → inside_read short n H r ≡ Err (short r.at)
inside_short short n H r lt = rw (lt-ltb (length (left r)) n lt) refl

inside_long : {A F : Type 0} (short : ℕ → F) (n : ℕ) (H : Layout A F) (r : Reader) → n ≤ length (left r) → inside_read short n H r ≡ back_out r n (H.read (window r n))
inside_long short n H r le = rw (le-ltb (length (left r)) n le) refl

back_ok : {A F : Type 0} (r s : Reader) (n : ℕ) (v : A) (q : Result (A × Reader) F) → back_out r n q ≡ Ok (v, s) → (w : Reader) × (q ≡ Ok (v, w)) × (s ≡ moved r n)
back_ok {A} {F} r s n v (Ok x) e =
    let p = ok_is {F = F} (x.0, moved r n) (v, s) e in
    (x.1, ap (λ (y : A). done {F = F} (y, x.1)) (ap (λ (y : A × Reader). y.0) p), sym (ap (λ (y : A × Reader). y.1) p))
back_ok r s n v (Err f) e = absurd cc

back_err : {A F : Type 0} (r : Reader) (n : ℕ) (f : F) (q : Result (A × Reader) F) → back_out r n q ≡ Err f → q ≡ Err f
back_err r n f (Ok x) e = absurd cc
back_err {A} {F} r n f (Err g) e = ap (λ (d : F). failed {A = A × Reader} d) (err_is {A = A × Reader} g f e)

-- n bits that are read to their end
pub inside-exact : {A F : Type 0} (short : ℕ → F) (n : ℕ) (H : Layout A F) → IsExactToEnd H → IsExact (inside short n H)
inside-exact {A} {F} short n H h = record {
  takes = λ r s v e.
      elim (cases_lt (length (left r)) n) [
        | inl lt ↦ absurd (let never = inside_short short n H r lt in cc)
        | inr le ↦
            let b = back_ok r s n v (H.read (window r n)) (sym (inside_long short n H r le) ∙ e) in
            let t = h.takes (window r n) b.0 v b.1 in
            let text : take n (left r) ≡ H.spelling v = sym (left-window r n) ∙ t.1 in
            let len : length (H.spelling v) ≡ n = omega (arith, ap (λ (x : List Bool). length x) text, length-take n (left r)) in
            let s-is : s ≡ moved r (length (H.spelling v)) = b.2 ∙ ap (λ (k : ℕ). moved r k) (sym len) in
            let front : left r ≡ H.spelling v ++ drop n (left r) = sym (take-append-drop n (left r)) ∙ ap (λ (x : List Bool). x ++ drop n (left r)) text in
            let behind : left s ≡ drop n (left r) = ap (λ (q : Reader). left q) s-is ∙ left_moved r (H.spelling v) (drop n (left r)) front in
            ((t.0, len), front ∙ ap (λ (x : List Bool). H.spelling v ++ x) (sym behind), s-is)
      ];
  again = λ r v u fits e.
      let le : n ≤ length (left r) = omega (arith, ap (λ (x : List Bool). length x) e, length-append (H.spelling v) u, fits.1) in
      let text : left (window r n) ≡ H.spelling v = left-window r n ∙ ap (λ (x : List Bool). take n x) e ∙ take_at (H.spelling v) u n fits.1 in
      inside_long short n H r le ∙ ap (back_out r n) (h.again (window r n) v fits.0 text) ∙ ap (λ (k : ℕ). done {F = F} (v, moved r k)) (sym fits.1);
  blames = λ r f e.
      elim (cases_lt (length (left r)) n) [
        | inl lt ↦ inl (lt, sym (err_is {A = A × Reader} (short r.at) f (sym (inside_short short n H r lt) ∙ e)))
        | inr le ↦ inr (le, subst (λ (x : List Bool). H.Faults r.at f x) (left-window r n) (h.blames (window r n) f (back_err r n f (H.read (window r n)) (sym (inside_long short n H r le) ∙ e))))
      ];
  only = λ r f bad.
      elim bad [
        | inl a ↦ inside_short short n H r a.0 ∙ ap (λ (d : F). failed {A = A × Reader} d) (sym a.1)
        | inr a ↦ inside_long short n H r a.0 ∙ ap (back_out r n) (h.only (window r n) f (subst (λ (x : List Bool). H.Faults r.at f x) (sym (left-window r n)) a.1))
      ];
}

-- A text has a fault, or begins with the spelling of a value, and not both.
pub decided : {A F : Type 0} (L : Layout A F) → IsExact L → (t : List Bool) → Begins L t ⊎ ((f : F) × L.Faults 0 f t)
decided {A} {F} L l t =
    let start : Reader = record { text = t; at = 0 } in
    let go : (q : Result (A × Reader) F) → L.read start ≡ q → Begins L t ⊎ ((f : F) × L.Faults 0 f t) = elim [
      | Ok x ↦ λ is. let p = l.takes start x.1 x.0 is in inl (x.0, left x.1, p.0, p.1)
      | Err f ↦ λ is. inr (f, l.blames start f is)
    ] in
    go (L.read start) refl

pub never_both : {A F : Type 0} (L : Layout A F) → IsExact L → (f : F) (t : List Bool) → Begins L t → L.Faults 0 f t → ⊥
never_both {A} {F} L l f t begins bad =
    let start : Reader = record { text = t; at = 0 } in
    let a = l.again start begins.0 begins.1 begins.2 begins.3 in
    let b = l.only start f bad in
    cc

pub decided_by : {A F : Type 0} (L : Layout A F) → IsExact L → IsDecided L
decided_by L l = record { one_of = decided L l; not_both = never_both L l }
