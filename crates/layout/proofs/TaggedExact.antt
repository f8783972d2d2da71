-- A tag, and what stands behind it, are read exactly.
use Rattle.std.proofs.Common.{◌≡◌, ℕ, ◌+◌, Bool, List, ◌++◌, length, Option, Some, None, Ok, refl, sym, ap, subst, ◌∙◌, append_assoc, inl, inr}
use Rattle.layout.specs.Reader.{Reader, left, moved}
use Rattle.layout.specs.Layout.{Layout}
use Rattle.layout.specs.Exact.{IsExact}
use Rattle.layout.proofs.Layouts.{bind_ok, bind_err, done, ok_is, left_moved, moved_twice}
use Rattle.layout.specs.Tagged.{tagged, as_variant, FitsIn, spelling_in}

pub tagged-exact : {A B F : Type 0} (tag : B → A) (H : Layout A F) (K : A → Layout B F) → IsExact H → ((a : A) → IsExact (K a)) → ((a : A) (v : B) → H.Fits a → (K a).Fits v → tag v ≡ a) → IsExact (tagged tag H K)
tagged-exact {A} {B} {F} tag H K h k tie = record {
  takes = λ r s v e.
      let a = bind_ok (H.read r) (λ x. (K x.0).read x.1) (v, s) e in
      let t0 = h.takes r a.0.1 a.0.0 a.1 in
      let t1 = (k a.0.0).takes a.0.1 s v a.2 in
      let s0 = H.spelling a.0.0 in
      let s1 = (K a.0.0).spelling v in
      let tag-is : a.0.0 ≡ tag v = sym (tie a.0.0 v t0.0 t1.0) in
      subst (λ (x : A). (H.Fits x × (K x).Fits v) × (left r ≡ (H.spelling x ++ (K x).spelling v) ++ left s) × (s ≡ moved r (length (H.spelling x ++ (K x).spelling v)))) tag-is
      ((t0.0, t1.0), t0.1 ∙ ap (λ (t : List Bool). s0 ++ t) t1.1 ∙ sym (append_assoc s0 s1 (left s)), t1.2 ∙ ap (λ (q : Reader). moved q (length s1)) t0.2 ∙ moved_twice r s0 s1);
  again = λ r v u fits e.
      let s0 = H.spelling (tag v) in
      let s1 = (K (tag v)).spelling v in
      let e0 : left r ≡ s0 ++ (s1 ++ u) = e ∙ append_assoc s0 s1 u in
      let first = h.again r (tag v) (s1 ++ u) fits.0 e0 in
      let second = (k (tag v)).again (moved r (length s0)) v u fits.1 (left_moved r s0 (s1 ++ u) e0) in
      rw (first, second) (ap (λ (q : Reader). done {F = F} (v, q)) (moved_twice r s0 s1));
  blames = λ r f e.
      elim (bind_err (H.read r) (λ x. (K x.0).read x.1) f e) [
        | inl bad ↦ inl (h.blames r f bad)
        | inr a ↦
            let t0 = h.takes r a.0.1 a.0.0 a.1 in
            inr (a.0.0, left a.0.1, t0.0, t0.1, subst (λ (n : ℕ). (K a.0.0).Faults n f (left a.0.1)) (ap (λ (q : Reader). q.at) t0.2) ((k a.0.0).blames a.0.1 f a.2))
      ];
  only = λ r f bad.
      elim bad [
        | inl b ↦ rw (h.only r f b) refl
        | inr w ↦
            let s0 = H.spelling w.0 in
            let first = h.again r w.0 w.1 w.2 w.3 in
            let there = subst (λ (t : List Bool). (K w.0).Faults (r.at + length s0) f t) (sym (left_moved r s0 w.1 w.3)) w.4 in
            rw (first, (k w.0).only (moved r (length s0)) f there) refl
      ];
}

-- make and of lead there and back
pub as_variant-exact : {A B F : Type 0} (make : A → B) (of : B → Option A) (H : Layout A F) → IsExact H → ((a : A) → of (make a) ≡ Some a) → ((b : B) (a : A) → of b ≡ Some a → make a ≡ b) → IsExact (as_variant make of H)
as_variant-exact {A} {B} {F} make of H h out back = record {
  takes = λ r s v e.
      let a = bind_ok (H.read r) (λ x. Ok (make x.0, x.1)) (v, s) e in
      let t = h.takes r a.0.1 a.0.0 a.1 in
      let made : B × Reader = (make a.0.0, a.0.1) in
      let L = as_variant make of H in
      subst (λ (y : B × Reader). L.Fits y.0 × (left r ≡ L.spelling y.0 ++ left y.1) × (y.1 ≡ moved r (length (L.spelling y.0)))) (ok_is {F = F} made (v, s) a.2) (rw (out a.0.0) t);
  again = λ r v u fits e.
      let go : (o : Option A) → of v ≡ o → FitsIn H.Fits o → left r ≡ spelling_in H.spelling o ++ u → (as_variant make of H).read r ≡ Ok (v, moved r (length (spelling_in H.spelling o))) = elim [
        | None ↦ λ is f e. absurd f
        | Some a ↦ λ is f e. rw (h.again r a u f e, back v a is) refl
      ] in
      go (of v) refl fits e;
  blames = λ r f e.
      elim (bind_err (H.read r) (λ x. Ok (make x.0, x.1)) f e) [
        | inl bad ↦ h.blames r f bad
        | inr a ↦ absurd (let never = a.2 in cc)
      ];
  only = λ r f bad. rw (h.only r f bad) refl;
}
