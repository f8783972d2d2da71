-- Reading a counted list in a loop.
use Rattle.std.proofs.Common.{◌≡◌, ℕ, suc, ◌+◌, ◌-◌, ◌<◌, ◌≤◌, List, [], ◌∷◌, ◌++◌, Result, Ok, Err, Bool, refl, sym, ap, ◌∙◌, append_assoc, arith}
use Rattle.std.proofs.lemmas.List.{append-nil}
use Rattle.layout.specs.Layout.{◌>>=◌, Layout}
use Rattle.layout.specs.Reader.{Reader}
use Rattle.layout.specs.Reading.{GivesUnless}
use Rattle.layout.specs.Times.{times, times_read}

-- what was read before, and what is still read
abbrev pub with_front : {A F : Type 0} → List A → Result (List A × Reader) F → Result (List A × Reader) F
with_front front read = read >>= λ x. Ok (front ++ x.0, x.1)

regroup : {A F : Type 0} (front : List A) (v : A) (read : Result (List A × Reader) F) → with_front front (read >>= λ x. Ok (v ∷ x.0, x.1)) ≡ with_front (front ++ v ∷ []) read
regroup {A} {F} front v (Ok x) = ap (λ (vs : List A). let r : Result (List A × Reader) F = Ok (vs, x.1) in r) (simp append_assoc)
regroup front v (Err f) = refl

pub begins : {A F : Type 0} (H : Layout A F) (n : ℕ) (r : Reader) → with_front [] (times_read H (n - 0) r) ≡ times_read H n r
begins {A} {F} H n r =
    let k : n - 0 ≡ n = omega arith in
    let go : (q : Result (List A × Reader) F) → with_front [] q ≡ q = elim [ Ok x ↦ refl | Err f ↦ refl ] in
    rw k (go (times_read H n r))

pub goes_on : {A F : Type 0} (H : Layout A F) (front : List A) (n i : ℕ) (r s : Reader) (v : A) (total : Result (List A × Reader) F) → i < n → H.read r ≡ Ok (v, s)
    → with_front front (times_read H (n - i) r) ≡ total → with_front (front ++ v ∷ []) (times_read H (n - (i + 1)) s) ≡ total
goes_on H front n i r s v total lt h so_far =
    let k : n - i ≡ suc (n - (i + 1)) = omega arith in
    let one : with_front front (times_read H (n - i) r) ≡ with_front (front ++ v ∷ []) (times_read H (n - (i + 1)) s) = rw (k, h) (regroup front v (times_read H (n - (i + 1)) s)) in
    sym one ∙ so_far

pub ends : {A F : Type 0} (H : Layout A F) (front : List A) (n i : ℕ) (r : Reader) (f : F) (total : Result (List A × Reader) F) → i < n → H.read r ≡ Err f
    → with_front front (times_read H (n - i) r) ≡ total → total ≡ Err f
ends H front n i r f total lt h so_far =
    let k : n - i ≡ suc (n - (i + 1)) = omega arith in
    let one : with_front front (times_read H (n - i) r) ≡ Err f = rw (k, h) refl in
    sym so_far ∙ one

pub is_done : {A F : Type 0} (H : Layout A F) (front : List A) (n i : ℕ) (r : Reader) (total : Result (List A × Reader) F) → n ≤ i → with_front front (times_read H (n - i) r) ≡ total → total ≡ Ok (front, r)
is_done {A} {F} H front n i r total le so_far =
    let k : n - i ≡ 0 = omega arith in
    let one : with_front front (times_read H (n - i) r) ≡ Ok (front, r) = rw k (ap (λ (vs : List A). let q : Result (List A × Reader) F = Ok (vs, r) in q) (append-nil front)) in
    sym so_far ∙ one

-- an item that failed is the fault of the list
pub fails_within : {A F : Type 0} (free : F → Bool) (H : Layout A F) (front : List A) (n i : ℕ) (old r s : Reader) (f : F) → i < n → GivesUnless free H r s (Err f)
    → with_front front (times_read H (n - i) r) ≡ times_read H n old → r.text ≡ old.text → old.at ≤ r.at → GivesUnless free (times n H) old s (Err f)
fails_within free H front n i old r s f lt gives so_far same onwards =
    (λ h. ends H front n i r f (times_read H n old) lt (gives.0 h) so_far, (gives.1.0 ∙ same, omega (arith, gives.1.1, onwards)))
