-- Layouts put together of exact ones are exact.
use Rattle.std.proofs.Common.{◌≡◌, ℕ, zero, suc, ◌+◌, ◌-◌, ◌*◌, ◌^◌, ◌<◌, ◌≤◌, Bool, true, false, List, [], ◌∷◌, ◌++◌, length, take, drop, replicate, Option, Some, None, Result, Ok, Err, refl, sym, ap, subst, ◌∙◌, append_assoc, arith, inl, inr}
use Rattle.std.specs.Prelude.{◌⊎◌, is_some, OnErr}
use Rattle.std.proofs.lemmas.Bool.{cases_lt, cases_eq, ne_eqb, le-ltb, lt-ltb}
use Rattle.std.proofs.lemmas.List.{drop_at, drop-drop, length-append, take_at, take-append-drop, append-nil, length-replicate, length-take-le, append_cancel_left}
use Rattle.std.specs.List.{flat_map, AllByRecursion}
use Rattle.layout.specs.Exact.{IsField, IsExact, IsOpen}
use Rattle.layout.specs.Fields.{Field, field, parsed, judged, number_field, number_parse, flag_field, none_refused, run_field, run_parse}
use Rattle.layout.specs.Layout.{◌>>=◌, Layout, both, shaped, fitted, wrapped, error_mapped, known, where_set, FitsOption, spelling_of, whole, at_start, StopsWithin, checked, unless_refused, constant, unless_same, behind, before}
use Rattle.layout.specs.Reader.{Reader, left, moved}
use Rattle.layout.specs.Reading.{Gives, GivesUnless, Reads, ReadsUnless}
use Rattle.layout.specs.Text.{num, value_after}
use Rattle.layout.specs.Times.{times, times_read, TimesFaults}
use Rattle.layout.proofs.TextLemmas.{length-num, num-value_after, value_after-num, value_after-lt}

pub bind_ok : {A B F : Type 0} (r : Result A F) (f : A → Result B F) (y : B) → (r >>= f) ≡ Ok y → (x : A) × (r ≡ Ok x) × (f x ≡ Ok y)
bind_ok (Ok x) f y e = (x, refl, e)
bind_ok (Err d) f y e = absurd cc

pub bind_err : {A B F : Type 0} (r : Result A F) (f : A → Result B F) (d : F) → (r >>= f) ≡ Err d → (r ≡ Err d) ⊎ ((x : A) × (r ≡ Ok x) × (f x ≡ Err d))
bind_err (Ok x) f d e = inr (x, refl, e)
bind_err {A} {B} {F} (Err c) f d e = let same : c ≡ d = cc in inl (ap (λ (y : F). Err y) same)

abbrev pub done : {A F : Type 0} → A → Result A F
done x = Ok x

pub ok_is : {A F : Type 0} (x y : A) → done {F = F} x ≡ done y → x ≡ y
ok_is x y e = cc

abbrev found : {A : Type 0} → A → Option A
found x = Some x

pub some_is : {A : Type 0} (x y : A) → found x ≡ found y → x ≡ y
some_is x y e = cc

-- what is left behind a spelling
pub left_moved : (r : Reader) (s u : List Bool) → left r ≡ s ++ u → left (moved r (length s)) ≡ u
left_moved r s u e = sym (drop-drop (length s) r.at r.text) ∙ rw e (drop_at s u (length s) refl)

pub moved_twice : (r : Reader) (s u : List Bool) → moved (moved r (length s)) (length u) ≡ moved r (length (s ++ u))
moved_twice r s u = ap (λ (n : ℕ). let m : Reader = record { text = r.text; at = n } in m) (omega (arith, length-append s u))

pub both-exact : {A B F : Type 0} (H : Layout A F) (K : A → Layout B F) → IsExact H → ((a : A) → IsExact (K a)) → IsExact (both H K)
both-exact {A} {B} {F} H K h k = record {
  takes = λ r s v e.
      let a = bind_ok (H.read r) (λ x. (K x.0).read x.1 >>= λ y. Ok ((x.0, y.0), y.1)) (v, s) e in
      let b = bind_ok ((K a.0.0).read a.0.1) (λ y. Ok ((a.0.0, y.0), y.1)) (v, s) a.2 in
      let t0 = h.takes r a.0.1 a.0.0 a.1 in
      let t1 = (k a.0.0).takes a.0.1 b.0.1 b.0.0 b.1 in
      let s0 = H.spelling a.0.0 in
      let s1 = (K a.0.0).spelling b.0.0 in
      let made : (A × B) × Reader = ((a.0.0, b.0.0), b.0.1) in
      let L = both H K in
      subst (λ (y : (A × B) × Reader). L.Fits y.0 × (left r ≡ L.spelling y.0 ++ left y.1) × (y.1 ≡ moved r (length (L.spelling y.0)))) (ok_is {F = F} made (v, s) b.2)
      ((t0.0, t1.0), t0.1 ∙ ap (λ (t : List Bool). s0 ++ t) t1.1 ∙ sym (append_assoc s0 s1 (left b.0.1)), t1.2 ∙ ap (λ (q : Reader). moved q (length s1)) t0.2 ∙ moved_twice r s0 s1);
  again = λ r v u fits e.
      let s0 = H.spelling v.0 in
      let s1 = (K v.0).spelling v.1 in
      let e0 : left r ≡ s0 ++ (s1 ++ u) = e ∙ append_assoc s0 s1 u in
      let first = h.again r v.0 (s1 ++ u) fits.0 e0 in
      let second = (k v.0).again (moved r (length s0)) v.1 u fits.1 (left_moved r s0 (s1 ++ u) e0) in
      rw (first, second) (ap (λ (q : Reader). done {F = F} (v, q)) (moved_twice r s0 s1));
  blames = λ r f e.
      elim (bind_err (H.read r) (λ x. (K x.0).read x.1 >>= λ y. Ok ((x.0, y.0), y.1)) f e) [
        | inl bad ↦ inl (h.blames r f bad)
        | inr a ↦
            let t0 = h.takes r a.0.1 a.0.0 a.1 in
            elim (bind_err ((K a.0.0).read a.0.1) (λ y. Ok ((a.0.0, y.0), y.1)) f a.2) [
              | inl bad ↦ inr (a.0.0, left a.0.1, t0.0, t0.1, subst (λ (n : ℕ). (K a.0.0).Faults n f (left a.0.1)) (ap (λ (q : Reader). q.at) t0.2) ((k a.0.0).blames a.0.1 f bad))
              | inr b ↦ absurd (let never = b.2 in cc)
            ]
      ];
  only = λ r f bad.
      elim bad [
        | inl b ↦ rw (h.only r f b) refl
        | inr w ↦
            let s0 = H.spelling w.0 in
            let first = h.again r w.0 w.1 w.2 w.3 in
            let there = subst (λ (t : List Bool). (K w.0).Faults (r.at + length s0) f t) (sym (left_moved r s0 w.1 w.3)) w.4 in
            rw (first, (k w.0).only (moved r (length s0)) f there) refl
      ];
}

-- a value that is found and not refused, and a fault of a field
parsed_ok : {A F : Type 0} (short : ℕ → F) (refusal : A → Option (ℕ → F)) (r s : Reader) (v : A) (o : Option (A × ℕ)) → parsed short refusal r o ≡ Ok (v, s) → (n : ℕ) × (o ≡ Some (v, n)) × (refusal v ≡ None) × (s ≡ moved r n)
parsed_ok short refusal r s v None e = absurd cc
parsed_ok {A} {F} short refusal r s v (Some x) e =
    let go : (q : Option (ℕ → F)) → refusal x.0 ≡ q → judged r x.0 x.1 q ≡ Ok (v, s) → (n : ℕ) × (Some x ≡ Some (v, n)) × (refusal v ≡ None) × (s ≡ moved r n) = elim [
      | None ↦ λ is found.
          let both_is = ok_is {F = F} (x.0, moved r x.1) (v, s) found in
          let v-is : x.0 ≡ v = ap (λ (p : A × Reader). p.0) both_is in
          let s-is : moved r x.1 ≡ s = ap (λ (p : A × Reader). p.1) both_is in
          (x.1, ap (λ (a : A). Some (a, x.1)) v-is, subst (λ (a : A). refusal a ≡ None) v-is is, sym s-is)
      | Some reason ↦ λ is found. absurd cc
    ] in
    go (refusal x.0) refl e

parsed_err : {A F : Type 0} (short : ℕ → F) (refusal : A → Option (ℕ → F)) (r : Reader) (f : F) (o : Option (A × ℕ)) → parsed short refusal r o ≡ Err f
    → ((o ≡ None) × (f ≡ short r.at)) ⊎ ((v : A) × (n : ℕ) × (reason : ℕ → F) × (o ≡ Some (v, n)) × (refusal v ≡ Some reason) × (f ≡ reason r.at))
parsed_err {A} {F} short refusal r f None e = let same : short r.at ≡ f = cc in inl (refl, sym same)
parsed_err {A} {F} short refusal r f (Some x) e =
    let go : (q : Option (ℕ → F)) → refusal x.0 ≡ q → judged r x.0 x.1 q ≡ Err f → ((Some x ≡ None) × (f ≡ short r.at)) ⊎ ((v : A) × (n : ℕ) × (reason : ℕ → F) × (Some x ≡ Some (v, n)) × (refusal v ≡ Some reason) × (f ≡ reason r.at)) = elim [
      | None ↦ λ is found. absurd cc
      | Some reason ↦ λ is found. let same : reason r.at ≡ f = cc in inr (x.0, x.1, reason, refl, is, sym same)
    ] in
    go (refusal x.0) refl e

pub field-exact : {A F : Type 0} (short : ℕ → F) (refusal : A → Option (ℕ → F)) (G : Field A) → IsField G → IsExact (field short refusal G)
field-exact {A} {F} short refusal G g = record {
  takes = λ r s v e.
      let p = parsed_ok short refusal r s v (G.parse (left r)) e in
      let t = g.starts (left r) v p.0 p.1 in
      let s-is : s ≡ moved r (length (G.spelling v)) = p.3 ∙ ap (λ (n : ℕ). moved r n) (sym t.1) in
      let behind : left s ≡ t.2.0 = ap (λ (q : Reader). left q) s-is ∙ left_moved r (G.spelling v) t.2.0 t.2.1 in
      ((t.0, p.2), t.2.1 ∙ ap (λ (u : List Bool). G.spelling v ++ u) (sym behind), s-is);
  again = λ r v u fits e. ap (parsed short refusal r) (ap G.parse e ∙ g.again v u fits.0) ∙ ap (judged r v (length (G.spelling v))) fits.1;
  blames = λ r f e.
      elim (parsed_err short refusal r f (G.parse (left r)) e) [
        | inl a ↦ inl (a.1, g.ends (left r) a.0)
        | inr b ↦ let t = g.starts (left r) b.0 b.1 b.3 in inr (b.2, (b.0, t.2.0, t.0, b.4, t.2.1), b.5)
      ];
  only = λ r f bad.
      elim bad [
        | inl a ↦ ap (parsed short refusal r) (g.short (left r) a.1) ∙ ap (λ (d : F). Err d) (sym a.0)
        | inr b ↦
            let w = b.1 in
            ap (parsed short refusal r) (ap G.parse w.4 ∙ g.again w.0 w.1 w.2) ∙ ap (judged r w.0 (length (G.spelling w.0))) w.3 ∙ ap (λ (d : F). Err d) (sym b.2)
      ];
}

pub shaped-exact : {A B F : Type 0} (parts : B → A) (made : A → B) (H : Layout A F) → IsExact H → ((a : A) → H.Fits a → parts (made a) ≡ a) → ((b : B) → H.Fits (parts b) → made (parts b) ≡ b) → IsExact (shaped parts made H)
shaped-exact {A} {B} {F} parts made H h back there = record {
  takes = λ r s v e.
      let a = bind_ok (H.read r) (λ x. Ok (made x.0, x.1)) (v, s) e in
      let t = h.takes r a.0.1 a.0.0 a.1 in
      let made_is : B × Reader = (made a.0.0, a.0.1) in
      let L = shaped parts made H in
      subst (λ (y : B × Reader). L.Fits y.0 × (left r ≡ L.spelling y.0 ++ left y.1) × (y.1 ≡ moved r (length (L.spelling y.0)))) (ok_is {F = F} made_is (v, s) a.2)
      (rw (back a.0.0 t.0) t);
  again = λ r v u fits e. rw (h.again r (parts v) u fits e, there v fits) refl;
  blames = λ r f e.
      elim (bind_err (H.read r) (λ x. Ok (made x.0, x.1)) f e) [
        | inl bad ↦ h.blames r f bad
        | inr a ↦ absurd (let never = a.2 in cc)
      ];
  only = λ r f bad. rw (h.only r f bad) refl;
}

-- what is made of parts that fit does fit, and what fits is made of its parts
pub fitted-exact : {A B F : Type 0} (fits : B → Type 0) (parts : B → A) (made : A → B) (H : Layout A F) → IsExact H
    → ((a : A) → H.Fits a → parts (made a) ≡ a) → ((a : A) → H.Fits a → fits (made a)) → ((b : B) → fits b → H.Fits (parts b) × (made (parts b) ≡ b)) → IsExact (fitted fits parts made H)
fitted-exact {A} {B} {F} fits parts made H h back good there = record {
  takes = λ r s v e.
      let a = bind_ok (H.read r) (λ x. Ok (made x.0, x.1)) (v, s) e in
      let t = h.takes r a.0.1 a.0.0 a.1 in
      let made_is : B × Reader = (made a.0.0, a.0.1) in
      let L = fitted fits parts made H in
      subst (λ (y : B × Reader). L.Fits y.0 × (left r ≡ L.spelling y.0 ++ left y.1) × (y.1 ≡ moved r (length (L.spelling y.0)))) (ok_is {F = F} made_is (v, s) a.2)
      (rw (back a.0.0 t.0) (good a.0.0 t.0, t.1, t.2));
  again = λ r v u fit e. let f = there v fit in rw (h.again r (parts v) u f.0 e, f.1) refl;
  blames = λ r f e.
      elim (bind_err (H.read r) (λ x. Ok (made x.0, x.1)) f e) [
        | inl bad ↦ h.blames r f bad
        | inr a ↦ absurd (let never = a.2 in cc)
      ];
  only = λ r f bad. rw (h.only r f bad) refl;
}

mapped_ok : {A F G : Type 0} (wrap : F → G) (r : Result A F) (x : A) → error_mapped wrap r ≡ Ok x → r ≡ Ok x
mapped_ok {A} wrap (Ok y) x e = let same : y ≡ x = cc in ap (λ (z : A). Ok z) same
mapped_ok wrap (Err f) x e = absurd cc

mapped_err : {A F G : Type 0} (wrap : F → G) (r : Result A F) (g : G) → error_mapped wrap r ≡ Err g → (f : F) × (r ≡ Err f) × (g ≡ wrap f)
mapped_err wrap (Ok y) g e = absurd cc
mapped_err wrap (Err f) g e = let same : wrap f ≡ g = cc in (f, refl, sym same)

pub wrapped-exact : {A F G : Type 0} (wrap : F → G) (H : Layout A F) → IsExact H → IsExact (wrapped wrap H)
wrapped-exact {A} {F} {G} wrap H h = record {
  takes = λ r s v e. h.takes r s v (mapped_ok wrap (H.read r) (v, s) e);
  again = λ r v u fits e. ap (error_mapped wrap) (h.again r v u fits e);
  blames = λ r g e. let m = mapped_err wrap (H.read r) g e in (m.0, h.blames r m.0 m.1, m.2);
  only = λ r g bad. ap (error_mapped wrap) (h.only r bad.0 bad.1) ∙ ap (λ (d : G). Err d) (sym bad.2);
}

pub known-exact : {A F : Type 0} (a : A) → IsExact (known {F = F} a)
known-exact {A} {F} a = record {
  takes = λ r s v e.
      let p = ok_is {F = F} (a, r) (v, s) e in
      let v-is : a ≡ v = ap (λ (x : A × Reader). x.0) p in
      let s-is : r ≡ s = ap (λ (x : A × Reader). x.1) p in
      (sym v-is, ap (λ (q : Reader). left q) s-is, sym s-is ∙ ap (λ (n : ℕ). let m : Reader = record { text = r.text; at = n } in m) (omega arith));
  again = λ r v u fits e. rw fits (ap (λ (n : ℕ). let m : Reader = record { text = r.text; at = n } in done {F = F} (a, m)) (omega arith));
  blames = λ r f e. absurd cc;
  only = λ r f bad. absurd bad;
}

pub where_set-exact : {A F : Type 0} (b : Bool) (H : Layout A F) → IsExact H → IsExact (where_set b H)
where_set-exact {A} {F} false H h = record {
  takes = λ r s v e.
      let p = ok_is {F = F} (None, r) (v, s) e in
      subst (λ (y : Option A × Reader). ((is_some y.0 ≡ false) × FitsOption H.Fits y.0) × (left r ≡ spelling_of H.spelling y.0 ++ left y.1) × (y.1 ≡ moved r (length (spelling_of H.spelling y.0)))) p
      ((refl, tt), refl, ap (λ (n : ℕ). let m : Reader = record { text = r.text; at = n } in m) (omega arith));
  again = λ r. elim [
    | None ↦ λ u fits e. ap (λ (n : ℕ). let m : Reader = record { text = r.text; at = n } in done {F = F} (None, m)) (omega arith)
    | Some x ↦ λ u fits e. absurd (let never = fits.0 in cc)
  ];
  blames = λ r f e. absurd cc;
  only = λ r f bad. absurd (let never = bad.0 in cc);
}
where_set-exact {A} {F} true H h = record {
  takes = λ r s v e.
      let a = bind_ok (H.read r) (λ x. Ok (Some x.0, x.1)) (v, s) e in
      let t = h.takes r a.0.1 a.0.0 a.1 in
      let made : Option A × Reader = (Some a.0.0, a.0.1) in
      subst (λ (y : Option A × Reader). ((is_some y.0 ≡ true) × FitsOption H.Fits y.0) × (left r ≡ spelling_of H.spelling y.0 ++ left y.1) × (y.1 ≡ moved r (length (spelling_of H.spelling y.0)))) (ok_is {F = F} made (v, s) a.2) ((refl, t.0), t.1, t.2);
  again = λ r. elim [
    | None ↦ λ u fits e. absurd (let never = fits.0 in cc)
    | Some x ↦ λ u fits e. rw (h.again r x u fits.1 e) refl
  ];
  blames = λ r f e.
      elim (bind_err (H.read r) (λ x. Ok (Some x.0, x.1)) f e) [
        | inl bad ↦ (refl, h.blames r f bad)
        | inr a ↦ absurd (let never = a.2 in cc)
      ];
  only = λ r f bad. rw (h.only r f bad.1) refl;
}

-- ---- fields

pub too_long : (t u s : List Bool) (b : Bool) → s ≡ t ++ b ∷ u → length t < length s
too_long t u s b e = omega (arith, ap length e, length-append t (b ∷ u))

pub flag-field : IsField flag_field
flag-field = record {
  starts = elim [
    | [] ↦ λ v n e. absurd cc
    | b ∷ t ↦ λ v n e.
        let p = some_is (b, 1) (v, n) e in
        (tt, ap (λ (x : Bool × ℕ). x.1) p, (t, ap (λ (x : Bool × ℕ). x.0 ∷ t) p))
  ];
  again = λ v u can. refl;
  ends = elim [
    | [] ↦ λ e. (true, tt, (true, [], refl))
    | b ∷ t ↦ λ e. absurd cc
  ];
  short = elim [
    | [] ↦ λ e. refl
    | b ∷ t ↦ λ e. absurd (let long = too_long (b ∷ t) e.2.1 (e.0 ∷ []) e.2.0 e.2.2 in omega arith)
  ];
}

pub number_none : (n : ℕ) (t : List Bool) → length t < n → number_parse n t ≡ None
number_none n t lt = rw (lt-ltb (length t) n lt) refl

pub number_some : (n : ℕ) (t : List Bool) → n ≤ length t → number_parse n t ≡ Some (value_after 0 (take n t), n)
number_some n t le = rw (le-ltb (length t) n le) refl

-- every text of n bits is the spelling of a number
pub number_of : (n : ℕ) (t : List Bool) → length t ≡ n → (value_after 0 t < 2 ^ n) × (num n (value_after 0 t) ≡ t)
unfolding num
number_of n t len =
    let lt : value_after 0 t < (0 + 1) * 2 ^ length t = value_after-lt t 0 in
    let same : num (0 + length t) (value_after 0 t) ≡ t = num-value_after 0 0 t in
    let k : 0 + length t ≡ n = omega arith in
    (subst (λ (m : ℕ). value_after 0 t < 2 ^ m) len (omega arith), subst (λ (m : ℕ). num m (value_after 0 t) ≡ t) k same)

pub number-field : (n : ℕ) → IsField (number_field n)
number-field n = record {
  starts = λ t v k e.
      elim (cases_lt (length t) n) [
        | inl lt ↦ absurd (let never = number_none n t lt in cc)
        | inr le ↦
            let is = number_some n t le in
            let p = some_is (value_after 0 (take n t), n) (v, k) (sym is ∙ e) in
            let v-is : value_after 0 (take n t) ≡ v = ap (λ (x : ℕ × ℕ). x.0) p in
            let k-is : n ≡ k = ap (λ (x : ℕ × ℕ). x.1) p in
            let of = number_of n (take n t) (length-take-le n t le) in
            (rw (← v-is) of.0, length-num n v ∙ k-is, (drop n t, sym (take-append-drop n t) ∙ ap (λ (s : List Bool). s ++ drop n t) (rw (← v-is) (sym of.1))))
      ];
  again = λ v u can.
      let le : n ≤ length (num n v ++ u) = omega (arith, length-append (num n v) u, length-num n v) in
      let value-is : value_after 0 (num n v) ≡ v = value_after-num 0 n v can ∙ omega arith in
      number_some n (num n v ++ u) le ∙ rw (take_at (num n v) u n (length-num n v), value-is, length-num n v) refl;
  ends = λ t e.
      elim (cases_lt (length t) n) [
        | inl lt ↦
            let zeros = replicate (n - length t - 1) false in
            let len : length (t ++ false ∷ zeros) ≡ n = omega (arith, length-append t (false ∷ zeros), length-replicate (n - length t - 1) false) in
            let of = number_of n (t ++ false ∷ zeros) len in
            (value_after 0 (t ++ false ∷ zeros), of.0, (false, zeros, of.1))
        | inr le ↦ absurd (let never = number_some n t le in cc)
      ];
  short = λ t e. number_none n t (omega (arith, too_long t e.2.1 (num n e.0) e.2.0 e.2.2, length-num n e.0));
}

abbrev pub failed : {A F : Type 0} → F → Result A F
failed f = Err f

pub err_is : {A F : Type 0} (f g : F) → failed {A = A} f ≡ failed g → f ≡ g
err_is f g e = cc

-- no spelling of one value is a prefix of another's
pub prefix_free : {A F : Type 0} (L : Layout A F) → IsExact L → (v w : A) (x y : List Bool) → L.Fits v → L.Fits w → L.spelling v ++ x ≡ L.spelling w ++ y → (v ≡ w) × (x ≡ y)
prefix_free {A} {F} L l v w x y fv fw e =
    let start : Reader = record { text = L.spelling v ++ x; at = 0 } in
    let a = l.again start v x fv refl in
    let b = l.again start w y fw e in
    let both_is = ok_is {F = F} (v, moved start (length (L.spelling v))) (w, moved start (length (L.spelling w))) (sym a ∙ b) in
    let v-is : v ≡ w = ap (λ (p : A × Reader). p.0) both_is in
    (v-is, append_cancel_left (L.spelling v) x y (e ∙ ap (λ (z : A). L.spelling z ++ y) (sym v-is)))

-- a text has at most one fault
pub one_fault : {A F : Type 0} (L : Layout A F) → IsExact L → (f g : F) (t : List Bool) → L.Faults 0 f t → L.Faults 0 g t → f ≡ g
one_fault {A} {F} L l f g t bad worse =
    let start : Reader = record { text = t; at = 0 } in
    let a = l.only start f bad in
    let b = l.only start g worse in
    err_is {A = A × Reader} f g (sym a ∙ b)

-- what is read moves on in the same text
pub moves : {A F : Type 0} (L : Layout A F) → IsExact L → (r s : Reader) (v : A) → L.read r ≡ Ok (v, s) → (s.text ≡ r.text) × (r.at ≤ s.at)
moves L l r s v e =
    let t = l.takes r s v e in
    (ap (λ (q : Reader). q.text) t.2, omega (arith, ap (λ (q : Reader). q.at) t.2))

-- a call that gives what an exact layout reads, and goes back where it failed
pub reads_by : {A F : Type 0} (L : Layout A F) → IsExact L → (old new : Reader) (r : Result A F) → Gives L old new r → OnErr r (new ≡ old) → Reads L old new r
reads_by {A} {F} L l old new (Ok v) gives back = record {
  found = l.takes old new v gives.0;
  only = λ w u fits e.
      let p = ok_is {F = F} (v, new) (w, moved old (length (L.spelling w))) (sym gives.0 ∙ l.again old w u fits e) in
      ap (λ (x : A × Reader). done {F = F} x.0) p;
  fault = tt;
  first = λ f bad. absurd (let never = l.only old f bad in cc);
  unchanged = tt;
}
reads_by {A} {F} L l old new (Err f) gives back = record {
  found = tt;
  only = λ w u fits e. absurd (let never = l.again old w u fits e in let is = gives.0 in cc);
  fault = l.blames old f gives.0;
  first = λ g bad. ap (λ (d : F). failed {A = A} d) (err_is {A = A × Reader} f g (sym gives.0 ∙ l.only old g bad));
  unchanged = back;
}

-- a call that failed, and then went back to where it began
pub went_back : {A F : Type 0} (L : Layout A F) → (old middle new : Reader) (f : F) (start : ℕ) → Gives L old middle (Err f) → start ≡ old.at → new ≡ record { text = middle.text; at = start } → new ≡ old
went_back L old middle new f start gives here back =
    back ∙ ap (λ (n : ℕ). let m : Reader = record { text = middle.text; at = n } in m) here ∙ ap (λ (t : List Bool). let m : Reader = record { text = t; at = old.at } in m) gives.1.0

pub reads_back : {A F : Type 0} (L : Layout A F) → IsExact L → (old middle new : Reader) (f : F) (start : ℕ) → Gives L old middle (Err f) → start ≡ old.at → new ≡ record { text = middle.text; at = start } → Reads L old new (Err f)
reads_back L l old middle new f start gives here back =
    let same = went_back L old middle new f start gives here back in
    reads_by L l old new (Err f) (gives.0, (ap (λ (q : Reader). q.text) same, omega (arith, ap (λ (q : Reader). q.at) same))) same

-- ---- one field of several numbers

-- a proper front of a spelling isn't the beginning of another spelling
pub never_within : {A F : Type 0} (L : Layout A F) → IsExact L → (r s : Reader) (v : A) → StopsWithin L (left r) → L.read r ≡ Ok (v, s) → ⊥
never_within {A} {F} L l r s v within e =
    let w = within.0 in
    let b = within.2.0 in
    let u = within.2.1 in
    let t = l.takes r s v e in
    let same : L.spelling w ++ [] ≡ L.spelling v ++ (left s ++ b ∷ u) = append-nil (L.spelling w) ∙ within.2.2 ∙ ap (λ (x : List Bool). x ++ b ∷ u) t.1 ∙ append_assoc (L.spelling v) (left s) (b ∷ u) in
    let p = prefix_free L l w v [] (left s ++ b ∷ u) within.1 t.0 same in
    omega (arith, ap (λ (x : List Bool). length x) p.1, length-append (left s) (b ∷ u))

at_start_ok : {A F G : Type 0} (g : G) (r : Result A F) (x : A) → at_start g r ≡ Ok x → r ≡ Ok x
at_start_ok {A} g (Ok y) x e = let same : y ≡ x = cc in ap (λ (z : A). Ok z) same
at_start_ok g (Err f) x e = absurd cc

at_start_err : {A F G : Type 0} (g d : G) (r : Result A F) → at_start g r ≡ Err d → (g ≡ d) × ((f : F) × (r ≡ Err f))
at_start_err g d (Ok y) e = absurd cc
at_start_err g d (Err f) e = let same : g ≡ d = cc in (same, (f, refl))

pub whole-exact : {A F G : Type 0} (short : ℕ → G) (H : Layout A F) → IsExact H → IsOpen H → IsExact (whole short H)
whole-exact {A} {F} {G} short H h o = record {
  takes = λ r s v e. h.takes r s v (at_start_ok (short r.at) (H.read r) (v, s) e);
  again = λ r v u fits e. ap (at_start (short r.at)) (h.again r v u fits e);
  blames = λ r g e.
      let p = at_start_err (short r.at) g (H.read r) e in
      (sym p.0, o.stops r.at p.1.0 (left r) (h.blames r p.1.0 p.1.1));
  only = λ r g bad.
      let go : (q : Result (A × Reader) F) → H.read r ≡ q → at_start (short r.at) q ≡ Err g = elim [
        | Ok x ↦ λ is. absurd (never_within H h r x.1 x.0 bad.1 is)
        | Err f ↦ λ is. ap (λ (d : G). Err d) (sym bad.0)
      ] in
      go (H.read r) refl;
}

checked_ok : {A F : Type 0} (at : ℕ) (x y : A × Reader) (o : Option (ℕ → F)) → unless_refused at x o ≡ Ok y → (o ≡ None) × (x ≡ y)
checked_ok {A} {F} at x y None e = (refl, ok_is {F = F} x y e)
checked_ok at x y (Some reason) e = absurd cc

checked_err : {A F : Type 0} (at : ℕ) (x : A × Reader) (f : F) (o : Option (ℕ → F)) → unless_refused at x o ≡ Err f → (reason : ℕ → F) × (o ≡ Some reason) × (f ≡ reason at)
checked_err at x f None e = absurd cc
checked_err at x f (Some reason) e = let same : reason at ≡ f = cc in (reason, refl, sym same)

pub checked-exact : {A F : Type 0} (refusal : A → Option (ℕ → F)) (H : Layout A F) → IsExact H → IsExact (checked refusal H)
checked-exact {A} {F} refusal H h = record {
  takes = λ r s v e.
      let a = bind_ok (H.read r) (λ x. unless_refused r.at x (refusal x.0)) (v, s) e in
      let p = checked_ok r.at a.0 (v, s) (refusal a.0.0) a.2 in
      let t = h.takes r a.0.1 a.0.0 a.1 in
      subst (λ (y : A × Reader). (H.Fits y.0 × (refusal y.0 ≡ None)) × (left r ≡ H.spelling y.0 ++ left y.1) × (y.1 ≡ moved r (length (H.spelling y.0)))) p.1 ((t.0, p.0), t.1, t.2);
  again = λ r v u fits e. rw (h.again r v u fits.0 e, fits.1) refl;
  blames = λ r f e.
      elim (bind_err (H.read r) (λ x. unless_refused r.at x (refusal x.0)) f e) [
        | inl bad ↦ inl (h.blames r f bad)
        | inr a ↦
            let t = h.takes r a.0.1 a.0.0 a.1 in
            let q = checked_err r.at a.0 f (refusal a.0.0) a.2 in
            inr (a.0.0, left a.0.1, q.0, t.0, t.1, q.1, q.2)
      ];
  only = λ r f bad.
      elim bad [
        | inl b ↦ rw (h.only r f b) refl
        | inr w ↦ rw (h.again r w.0 w.1 w.3 w.4, w.5) (ap (λ (d : F). failed {A = A × Reader} d) (sym w.6))
      ];
}

-- ---- layouts without refusals

pub both-open : {A B F : Type 0} (H : Layout A F) (K : A → Layout B F) → IsOpen H → ((a : A) → IsOpen (K a)) → IsOpen (both H K)
both-open {A} {B} {F} H K h k = record {
  some = let v = h.some in let w = (k v.0).some in ((v.0, w.0), (v.1, w.1));
  stops = λ at f t. elim [
    | inl bad ↦
        let p = h.stops at f t bad in
        let w = (k p.0).some in
        ((p.0, w.0), (p.1, w.1), (p.2.0, p.2.1 ++ (K p.0).spelling w.0, ap (λ (x : List Bool). x ++ (K p.0).spelling w.0) p.2.2 ∙ append_assoc t (p.2.0 ∷ p.2.1) ((K p.0).spelling w.0)))
    | inr q ↦
        let p = (k q.0).stops (at + length (H.spelling q.0)) f q.1 q.4 in
        ((q.0, p.0), (q.2, p.1), (p.2.0, p.2.1, ap (λ (x : List Bool). H.spelling q.0 ++ x) p.2.2 ∙ sym (append_assoc (H.spelling q.0) q.1 (p.2.0 ∷ p.2.1)) ∙ ap (λ (x : List Bool). x ++ p.2.0 ∷ p.2.1) (sym q.3)))
  ];
}

pub shaped-open : {A B F : Type 0} (parts : B → A) (made : A → B) (H : Layout A F) → IsOpen H → ((a : A) → H.Fits a → parts (made a) ≡ a) → IsOpen (shaped parts made H)
shaped-open parts made H h back = record {
  some = let v = h.some in (made v.0, rw (back v.0 v.1) v.1);
  stops = λ at f t bad. let p = h.stops at f t bad in (made p.0, rw (back p.0 p.1) p.1, rw (back p.0 p.1) p.2);
}

pub where_set-open : {A F : Type 0} (b : Bool) (H : Layout A F) → IsOpen H → IsOpen (where_set b H)
where_set-open true H h = record {
  some = let v = h.some in (Some v.0, (refl, v.1));
  stops = λ at f t bad. let p = h.stops at f t bad.1 in (Some p.0, (refl, p.1), p.2);
}
where_set-open false H h = record {
  some = (None, (refl, tt));
  stops = λ at f t bad. absurd (let never = bad.0 in cc);
}

pub field-open : {A F : Type 0} (short : ℕ → F) (G : Field A) → (v : A) → G.Can v → IsOpen (field short none_refused G)
field-open {A} {F} short G v can = record {
  some = (v, (can, refl));
  stops = λ at f t. elim [
    | inl bad ↦ (bad.1.0, (bad.1.1, refl), bad.1.2)
    | inr q ↦ absurd (let never = q.1.3 in cc)
  ];
}

-- the same layout in other words
pub same-exact : {A F : Type 0} (L M : Layout A F) → IsExact L → ((v : A) → M.Fits v → L.Fits v × (M.spelling v ≡ L.spelling v)) → ((v : A) → L.Fits v → M.Fits v × (M.spelling v ≡ L.spelling v)) → ((r : Reader) → M.read r ≡ L.read r)
    → ((at : ℕ) (f : F) (t : List Bool) → M.Faults at f t → L.Faults at f t) → ((at : ℕ) (f : F) (t : List Bool) → L.Faults at f t → M.Faults at f t) → IsExact M
same-exact {A} {F} L M l to from read to_fault from_fault = record {
  takes = λ r s v e.
      let t = l.takes r s v (sym (read r) ∙ e) in
      let m = from v t.0 in
      (m.0, t.1 ∙ ap (λ (x : List Bool). x ++ left s) (sym m.1), t.2 ∙ ap (λ (x : List Bool). moved r (length x)) (sym m.1));
  again = λ r v u fits e.
      let m = to v fits in
      read r ∙ l.again r v u m.0 (e ∙ ap (λ (x : List Bool). x ++ u) m.1) ∙ ap (λ (x : List Bool). done {F = F} (v, moved r (length x))) (sym m.1);
  blames = λ r f e. from_fault r.at f (left r) (l.blames r f (sym (read r) ∙ e));
  only = λ r f bad. read r ∙ l.only r f (to_fault r.at f (left r) bad);
}

-- what several numbers give, as one field
pub whole_ok : {A F G : Type 0} (short : ℕ → G) (H : Layout A F) (old new : Reader) (v : A) → Gives H old new (Ok v) → Gives (whole short H) old new (Ok v)
whole_ok short H old new v e = (ap (at_start (short old.at)) e.0, e.1)

pub whole_err : {A F G : Type 0} (short : ℕ → G) (H : Layout A F) (old new : Reader) (f : F) → Gives H old new (Err f) → Gives (whole short H) old new (Err (short old.at))
whole_err short H old new f e = (ap (at_start (short old.at)) e.0, e.1)

-- ---- one after another

pub times-exact : {A F : Type 0} (n : ℕ) (H : Layout A F) → IsExact H → IsExact (times n H)
times-exact {A} {F} zero H h = record {
  takes = λ r s v e.
      let p = ok_is {F = F} ([], r) (v, s) e in
      let v-is : [] ≡ v = ap (λ (x : List A × Reader). x.0) p in
      let s-is : r ≡ s = ap (λ (x : List A × Reader). x.1) p in
      subst (λ (y : List A × Reader). ((length y.0 ≡ 0) × AllByRecursion H.Fits y.0) × (left r ≡ flat_map H.spelling y.0 ++ left y.1) × (y.1 ≡ moved r (length (flat_map H.spelling y.0)))) p
      ((refl, tt), refl, ap (λ (k : ℕ). let m : Reader = record { text = r.text; at = k } in m) (omega arith));
  again = λ r. elim [
    | [] ↦ λ u fits e. ap (λ (k : ℕ). let m : Reader = record { text = r.text; at = k } in done {F = F} ([], m)) (omega arith)
    | v ∷ vs ↦ λ u fits e. absurd (omega (arith, fits.0))
  ];
  blames = λ r f e. absurd cc;
  only = λ r f bad. absurd bad;
}
times-exact {A} {F} (suc n) H h =
    let k = times-exact n H h in
    record {
      takes = λ r s v e.
          let a = bind_ok (H.read r) (λ x. times_read H n x.1 >>= λ y. Ok (x.0 ∷ y.0, y.1)) (v, s) e in
          let b = bind_ok (times_read H n a.0.1) (λ y. Ok (a.0.0 ∷ y.0, y.1)) (v, s) a.2 in
          let t0 = h.takes r a.0.1 a.0.0 a.1 in
          let t1 = k.takes a.0.1 b.0.1 b.0.0 b.1 in
          let s0 = H.spelling a.0.0 in
          let s1 = flat_map H.spelling b.0.0 in
          let made : List A × Reader = (a.0.0 ∷ b.0.0, b.0.1) in
          subst (λ (y : List A × Reader). ((length y.0 ≡ suc n) × AllByRecursion H.Fits y.0) × (left r ≡ flat_map H.spelling y.0 ++ left y.1) × (y.1 ≡ moved r (length (flat_map H.spelling y.0)))) (ok_is {F = F} made (v, s) b.2)
          ((ap suc t1.0.0, (t0.0, t1.0.1)), t0.1 ∙ ap (λ (t : List Bool). s0 ++ t) t1.1 ∙ sym (append_assoc s0 s1 (left b.0.1)), t1.2 ∙ ap (λ (q : Reader). moved q (length s1)) t0.2 ∙ moved_twice r s0 s1);
      again = λ r. elim [
        | [] ↦ λ u fits e. absurd (omega (arith, fits.0))
        | v ∷ vs ↦ λ u fits e.
            let s0 = H.spelling v in
            let s1 = flat_map H.spelling vs in
            let e0 : left r ≡ s0 ++ (s1 ++ u) = e ∙ append_assoc s0 s1 u in
            let first = h.again r v (s1 ++ u) fits.1.0 e0 in
            let len : length vs ≡ n = omega (arith, fits.0) in
            let second = k.again (moved r (length s0)) vs u (len, fits.1.1) (left_moved r s0 (s1 ++ u) e0) in
            rw (first, second) (ap (λ (q : Reader). done {F = F} (v ∷ vs, q)) (moved_twice r s0 s1))
      ];
      blames = λ r f e.
          elim (bind_err (H.read r) (λ x. times_read H n x.1 >>= λ y. Ok (x.0 ∷ y.0, y.1)) f e) [
            | inl bad ↦ inl (h.blames r f bad)
            | inr a ↦
                let t0 = h.takes r a.0.1 a.0.0 a.1 in
                elim (bind_err (times_read H n a.0.1) (λ y. Ok (a.0.0 ∷ y.0, y.1)) f a.2) [
                  | inl bad ↦ inr (a.0.0, left a.0.1, t0.0, t0.1, subst (λ (m : ℕ). TimesFaults H n m f (left a.0.1)) (ap (λ (q : Reader). q.at) t0.2) (k.blames a.0.1 f bad))
                  | inr b ↦ absurd (let never = b.2 in cc)
                ]
          ];
      only = λ r f bad.
          elim bad [
            | inl b ↦ rw (h.only r f b) refl
            | inr w ↦
                let s0 = H.spelling w.0 in
                let first = h.again r w.0 w.1 w.2 w.3 in
                let there = subst (λ (t : List Bool). TimesFaults H n (r.at + length s0) f t) (sym (left_moved r s0 w.1 w.3)) w.4 in
                rw (first, k.only (moved r (length s0)) f there) refl
          ];
    }

pub times-open : {A F : Type 0} (n : ℕ) (H : Layout A F) → IsOpen H → IsOpen (times n H)
times-open zero H h = record {
  some = ([], (refl, tt));
  stops = λ at f t bad. absurd bad;
}
times-open {A} {F} (suc n) H h =
    let k = times-open n H h in
    record {
      some = (h.some.0 ∷ k.some.0, (ap suc k.some.1.0, (h.some.1, k.some.1.1)));
      stops = λ at f t. elim [
        | inl bad ↦
            let p = h.stops at f t bad in
            let w = k.some in
            (p.0 ∷ w.0, (ap suc w.1.0, (p.1, w.1.1)), (p.2.0, p.2.1 ++ flat_map H.spelling w.0, ap (λ (x : List Bool). x ++ flat_map H.spelling w.0) p.2.2 ∙ append_assoc t (p.2.0 ∷ p.2.1) (flat_map H.spelling w.0)))
        | inr q ↦
            let p = k.stops (at + length (H.spelling q.0)) f q.1 q.4 in
            (q.0 ∷ p.0, (ap suc p.1.0, (q.2, p.1.1)), (p.2.0, p.2.1, ap (λ (x : List Bool). H.spelling q.0 ++ x) p.2.2 ∙ sym (append_assoc (H.spelling q.0) q.1 (p.2.0 ∷ p.2.1)) ∙ ap (λ (x : List Bool). x ++ p.2.0 ∷ p.2.1) (sym q.3)))
      ];
    }

pub not_free : (b : Bool) → (b ≡ false → ⊥) → b ≡ true
not_free true h = refl
not_free false h = absurd (h refl)

pub reads_unless : {A F : Type 0} (free : F → Bool) (L : Layout A F) → IsExact L → (old new : Reader) (r : Result A F) → GivesUnless free L old new r → OnErr r (new ≡ old) → ReadsUnless free L old new r
reads_unless {A} {F} free L l old new (Ok v) gives back = record {
  found = l.takes old new v gives.0;
  only = λ w u fits e.
      let p = ok_is {F = F} (v, new) (w, moved old (length (L.spelling w))) (sym gives.0 ∙ l.again old w u fits e) in
      (tt, ap (λ (x : A × Reader). x.0) p);
  fault = tt;
  first = λ f bad. absurd (let never = l.only old f bad in cc);
  unchanged = tt;
}
reads_unless {A} {F} free L l old new (Err f) gives back = record {
  found = tt;
  only = λ w u fits e. (not_free (free f) (λ h. absurd (let never = l.again old w u fits e in let is = gives.0 h in cc)), tt);
  fault = λ h. l.blames old f (gives.0 h);
  first = λ g bad. λ h. err_is {A = A × Reader} f g (sym (gives.0 h) ∙ l.only old g bad);
  unchanged = back;
}

pub unless_back : {A F : Type 0} (free : F → Bool) (L : Layout A F) → IsExact L → (old middle new : Reader) (f : F) (start : ℕ) → GivesUnless free L old middle (Err f) → start ≡ old.at → new ≡ record { text = middle.text; at = start } → ReadsUnless free L old new (Err f)
unless_back free L l old middle new f start gives here back =
    let same : new ≡ old = back ∙ ap (λ (n : ℕ). let m : Reader = record { text = middle.text; at = n } in m) here ∙ ap (λ (t : List Bool). let m : Reader = record { text = t; at = old.at } in m) gives.1.0 in
    reads_unless free L l old new (Err f) (gives.0, (ap (λ (q : Reader). q.text) same, omega (arith, ap (λ (q : Reader). q.at) same))) same

pub run_none : (n : ℕ) (t : List Bool) → length t < n → run_parse n t ≡ None
run_none n t lt = rw (lt-ltb (length t) n lt) refl

run_some : (n : ℕ) (t : List Bool) → n ≤ length t → run_parse n t ≡ Some (take n t, n)
run_some n t le = rw (le-ltb (length t) n le) refl

pub run-field : (n : ℕ) → IsField (run_field n)
run-field n = record {
  starts = λ t v k e.
      elim (cases_lt (length t) n) [
        | inl lt ↦ absurd (let never = run_none n t lt in cc)
        | inr le ↦
            let p = some_is (take n t, n) (v, k) (sym (run_some n t le) ∙ e) in
            let v-is : take n t ≡ v = ap (λ (x : List Bool × ℕ). x.0) p in
            let k-is : n ≡ k = ap (λ (x : List Bool × ℕ). x.1) p in
            let len : length v ≡ n = ap (λ (x : List Bool). length x) (sym v-is) ∙ length-take-le n t le in
            (len, len ∙ k-is, (drop n t, sym (take-append-drop n t) ∙ ap (λ (s : List Bool). s ++ drop n t) v-is))
      ];
  again = λ v u can.
      let le : n ≤ length (v ++ u) = omega (arith, length-append v u, can) in
      run_some n (v ++ u) le ∙ rw (take_at v u n can, can) refl;
  ends = λ t e.
      elim (cases_lt (length t) n) [
        | inl lt ↦
            let zeros = replicate (n - length t - 1) false in
            (t ++ false ∷ zeros, omega (arith, length-append t (false ∷ zeros), length-replicate (n - length t - 1) false), (false, zeros, refl))
        | inr le ↦ absurd (let never = run_some n t le in cc)
      ];
  short = λ t e. run_none n t (omega (arith, too_long t e.2.1 e.0 e.2.0 e.2.2, e.1));
}

-- a field that needs more bits than are left is short
pub whole_short : {A F G : Type 0} (short : ℕ → G) (H : Layout A F) → IsExact H → (r : Reader) → ((v : A) → H.Fits v → length (left r) < length (H.spelling v)) → (whole short H).read r ≡ Err (short r.at)
whole_short {A} {F} {G} short H h r long =
    let go : (q : Result (A × Reader) F) → H.read r ≡ q → at_start (short r.at) q ≡ Err (short r.at) = elim [
      | Ok x ↦ λ is.
          let t = h.takes r x.1 x.0 is in
          absurd (let lt = long x.0 t.0 in omega (arith, lt, ap (λ (y : List Bool). length y) t.1, length-append (H.spelling x.0) (left x.1)))
      | Err f ↦ λ is. refl
    ] in
    go (H.read r) refl

same_number : {F : Type 0} (v w : ℕ) (reason : ℕ → F) → unless_same v reason w ≡ None → v ≡ w
same_number v w reason e =
    elim (cases_eq w v) [
      | inl same ↦ sym same
      | inr other ↦ absurd (let is : unless_same v reason w ≡ Some reason = rw (ne_eqb w v other) refl in cc)
    ]

pub constant-exact : {F : Type 0} (reason : ℕ → F) (v : ℕ) (H : Layout ℕ F) → IsExact H → IsExact (constant reason v H)
constant-exact reason v H h = shaped-exact (λ _. v) (λ _. tt) (checked (unless_same v reason) H) (checked-exact (unless_same v reason) H h) (λ a fits. same_number v a reason fits.1) (λ b fits. refl)

pub behind-exact : {A F : Type 0} (H : Layout (Unit {0}) F) (K : Layout A F) → IsExact H → IsExact K → IsExact (behind H K)
behind-exact {A} {F} H K h k = shaped-exact {A = Unit {0} × A} {B = A} (λ v. (tt, v)) (λ x. x.1) (both H (λ _. K)) (both-exact H (λ _. K) h (λ _. k)) (λ a fits. refl) (λ b fits. refl)

pub before-exact : {A F : Type 0} (H : Layout A F) (K : Layout (Unit {0}) F) → IsExact H → IsExact K → IsExact (before H K)
before-exact {A} {F} H K h k = shaped-exact {A = A × Unit {0}} {B = A} (λ v. (v, tt)) (λ x. x.0) (both H (λ _. K)) (both-exact H (λ _. K) h (λ _. k)) (λ a fits. refl) (λ b fits. refl)
