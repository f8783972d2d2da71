-- A value for each entry of a list is read exactly where each layout is.
use Rattle.std.proofs.Common.{◌≡◌, ℕ, ◌+◌, Bool, List, [], ◌∷◌, ◌++◌, length, Ok, refl, sym, ap, subst, ◌∙◌, append_assoc, arith, inl, inr}
use Rattle.layout.specs.Exact.{IsExact}
use Rattle.layout.specs.Layout.{◌>>=◌, Layout}
use Rattle.layout.specs.Reader.{Reader, left, moved}
use Rattle.layout.proofs.Layouts.{bind_ok, bind_err, done, ok_is, left_moved, moved_twice}
use Rattle.layout.specs.Each.{FitEach, each_text, each_read, EachFaults, each}

pub each-exact : {X A F : Type 0} (H : X → Layout A F) → ((x : X) → IsExact (H x)) → (xs : List X) → IsExact (each H xs)
each-exact {X} {A} {F} H h [] = record {
  takes = λ r s v e.
      let p = ok_is {F = F} ([], r) (v, s) e in
      subst (λ (y : List A × Reader). FitEach (λ x. (H x).Fits) [] y.0 × (left r ≡ left y.1) × (y.1 ≡ moved r 0)) p
      (tt, refl, ap (λ (k : ℕ). let m : Reader = record { text = r.text; at = k } in m) (omega arith));
  again = λ r. elim [
    | [] ↦ λ u fits e. ap (λ (k : ℕ). let m : Reader = record { text = r.text; at = k } in done {F = F} ([], m)) (omega arith)
    | v ∷ vs ↦ λ u fits e. absurd fits
  ];
  blames = λ r f e. absurd cc;
  only = λ r f bad. absurd bad;
}
each-exact {X} {A} {F} H h (x ∷ xs) =
    let k = each-exact H h xs in
    let texts : List A → List Bool = each_text (λ y. (H y).spelling) xs in
    record {
      takes = λ r s v e.
          let a = bind_ok ((H x).read r) (λ y. each_read H xs y.1 >>= λ z. Ok (y.0 ∷ z.0, z.1)) (v, s) e in
          let b = bind_ok (each_read H xs a.0.1) (λ z. Ok (a.0.0 ∷ z.0, z.1)) (v, s) a.2 in
          let t0 = (h x).takes r a.0.1 a.0.0 a.1 in
          let t1 = k.takes a.0.1 b.0.1 b.0.0 b.1 in
          let s0 = (H x).spelling a.0.0 in
          let s1 = texts b.0.0 in
          let made : List A × Reader = (a.0.0 ∷ b.0.0, b.0.1) in
          let L = each H (x ∷ xs) in
          subst (λ (y : List A × Reader). L.Fits y.0 × (left r ≡ L.spelling y.0 ++ left y.1) × (y.1 ≡ moved r (length (L.spelling y.0)))) (ok_is {F = F} made (v, s) b.2)
          ((t0.0, t1.0), t0.1 ∙ ap (λ (t : List Bool). s0 ++ t) t1.1 ∙ sym (append_assoc s0 s1 (left b.0.1)), t1.2 ∙ ap (λ (q : Reader). moved q (length s1)) t0.2 ∙ moved_twice r s0 s1);
      again = λ r. elim [
        | [] ↦ λ u fits e. absurd fits
        | v ∷ vs ↦ λ u fits e.
            let s0 = (H x).spelling v in
            let s1 = texts vs in
            let e0 : left r ≡ s0 ++ (s1 ++ u) = e ∙ append_assoc s0 s1 u in
            let first = (h x).again r v (s1 ++ u) fits.0 e0 in
            let second = k.again (moved r (length s0)) vs u fits.1 (left_moved r s0 (s1 ++ u) e0) in
            rw (first, second) (ap (λ (q : Reader). done {F = F} (v ∷ vs, q)) (moved_twice r s0 s1))
      ];
      blames = λ r f e.
          elim (bind_err ((H x).read r) (λ y. each_read H xs y.1 >>= λ z. Ok (y.0 ∷ z.0, z.1)) f e) [
            | inl bad ↦ inl ((h x).blames r f bad)
            | inr a ↦
                let t0 = (h x).takes r a.0.1 a.0.0 a.1 in
                elim (bind_err (each_read H xs a.0.1) (λ z. Ok (a.0.0 ∷ z.0, z.1)) f a.2) [
                  | inl bad ↦ inr (a.0.0, left a.0.1, t0.0, t0.1, subst (λ (m : ℕ). EachFaults H xs m f (left a.0.1)) (ap (λ (q : Reader). q.at) t0.2) (k.blames a.0.1 f bad))
                  | inr b ↦ absurd (let never = b.2 in cc)
                ]
          ];
      only = λ r f bad.
          elim bad [
            | inl b ↦ rw ((h x).only r f b) refl
            | inr w ↦
                let s0 = (H x).spelling w.0 in
                let first = (h x).again r w.0 w.1 w.2 w.3 in
                let there = subst (λ (t : List Bool). EachFaults H xs (r.at + length s0) f t) (sym (left_moved r s0 w.1 w.3)) w.4 in
                rw (first, k.only (moved r (length s0)) f there) refl
          ];
    }
