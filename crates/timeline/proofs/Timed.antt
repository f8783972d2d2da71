-- Positions that rise, and pieces on the timeline.
use Rattle.std.proofs.Common.{◌≡◌, ℕ, zero, suc, ◌+◌, ◌-◌, ◌*◌, ◌/◌, ◌%◌, ◌<◌, ◌≤◌, Bool, true, false, List, [], ◌∷◌, length, take, Option, Some, None, Result, Ok, Err, refl, ap, sym, subst, ◌∙◌, arith}
use Rattle.std.specs.Prelude.{◌↔◌, nat_lt, ◌==◌, slice_index, if◌then◌else◌}
use Rattle.std.specs.List.Sorted.{IsStrictlyIncreasing}
use Rattle.std.proofs.lemmas.Bool.{eqb-true, eq-eqb, ltb-true, ltb-false, lt-ltb, le-ltb}
use Rattle.std.proofs.Math.Nat.{mul-div_cancel, mul-mod_left}
use Rattle.timeline.specs.declared.shape.Shape.{Shape}
use Rattle.timeline.specs.declared.piece.Piece.{Piece}
use Rattle.timeline.specs.declared.fault.PlanFault.{PlanFault}
use Rattle.timeline.specs.declared.fault.PlanFault.TheVariants.{BadOrder, NoFrameAt, RateDiffers, ChannelsDiffer, PastEnd}
use Rattle.timeline.specs.Order.{order_from, order_result}
use Rattle.timeline.specs.Bounds.{bounds_until}
use Rattle.timeline.specs.Plan.{piece_within, piece_in, placed, piece_result, first_position, with_pieces, and_then, plan_from, where_ordered, plan_result}
use Rattle.timeline.specs.Laws.{IsFirstFall, JudgesOrder, EndsAt, IsTimed, GoesOn, AreTimed, PlansTimed}

err_ok : {X E : Type 0} (e : E) (x : X) → (let r : Result X E = Err e in r) ≡ Ok x → ⊥
err_ok e x h = cc

ok_err : {X E : Type 0} (e : E) (x : X) → (let r : Result X E = Ok x in r) ≡ Err e → ⊥
ok_err e x h = cc

-- ---- positions that rise

-- the next one is larger, and from it on they rise
rises_on : (a b : ℕ) (xs : List ℕ) → a < b → IsStrictlyIncreasing (b ∷ xs) → IsStrictlyIncreasing (a ∷ b ∷ xs)
rises_on a b xs h r zero k = h
rises_on a b xs h r (suc i) k =
    let e : suc i + 1 ≡ suc (i + 1) = omega arith in
    let n : i + 1 < length (b ∷ xs) = omega (arith, k) in
    let P : ℕ → Type 0 = λ m. slice_index (a ∷ b ∷ xs) (suc i) < slice_index (a ∷ b ∷ xs) m in
    subst P (sym e) (r i n)

pub rises_first : (a b : ℕ) (xs : List ℕ) → IsStrictlyIncreasing (a ∷ b ∷ xs) → a < b
rises_first a b xs r = r 0 (omega arith)

pub rises_rest : (a b : ℕ) (xs : List ℕ) → IsStrictlyIncreasing (a ∷ b ∷ xs) → IsStrictlyIncreasing (b ∷ xs)
rises_rest a b xs r i k =
    let e : suc i + 1 ≡ suc (i + 1) = omega arith in
    let P : ℕ → Type 0 = λ m. slice_index (a ∷ b ∷ xs) (suc i) < slice_index (a ∷ b ∷ xs) m in
    subst P e (r (suc i) (omega (arith, k)))

order_rises : (n a : ℕ) (xs : List ℕ) → order_from n a xs ≡ Ok tt → IsStrictlyIncreasing (a ∷ xs)
order_rises n a [] e = λ i k. absurd (omega (arith, k))
order_rises n a (b ∷ xs) e = by_test (nat_lt a b) refl e (order_rises (n + 1) b xs)
  where
    by_test : (t : Bool) → nat_lt a b ≡ t → (if t then order_from (n + 1) b xs else Err (BadOrder n)) ≡ Ok tt → (order_from (n + 1) b xs ≡ Ok tt → IsStrictlyIncreasing (b ∷ xs)) → IsStrictlyIncreasing (a ∷ b ∷ xs)
    by_test true q h more = rises_on a b xs (ltb-true a b q) (more h)
    by_test false q h more = absurd (err_ok (BadOrder n) tt h)

rises_order : (n a : ℕ) (xs : List ℕ) → IsStrictlyIncreasing (a ∷ xs) → order_from n a xs ≡ Ok tt
rises_order n a [] r = refl
rises_order n a (b ∷ xs) r =
    ap (λ (t : Bool). if t then order_from (n + 1) b xs else Err (BadOrder n)) (lt-ltb a b (rises_first a b xs r)) ∙ rises_order (n + 1) b xs (rises_rest a b xs r)

bad_is : (m n : ℕ) → (let r : Result (Unit {0}) PlanFault = Err (BadOrder m) in r) ≡ Err (BadOrder n) → m ≡ n
bad_is m n e = cc

-- the first fall, from position n on: it is position n + j
record FallsAt (n a : ℕ) (xs : List ℕ) (k : ℕ) : Type 0 where
  place : ℕ
  is : k ≡ n + place
  within : place < length xs
  falls : slice_index xs place ≤ slice_index (a ∷ xs) place
  before : IsStrictlyIncreasing (take (suc place) (a ∷ xs))

order_falls : (n a : ℕ) (xs : List ℕ) (k : ℕ) → order_from n a xs ≡ Err (BadOrder k) → FallsAt n a xs k
order_falls n a [] k e = absurd (ok_err (BadOrder k) tt e)
order_falls n a (b ∷ xs) k e = by_test (nat_lt a b) refl e (order_falls (n + 1) b xs k)
  where
    by_test : (t : Bool) → nat_lt a b ≡ t → (if t then order_from (n + 1) b xs else Err (BadOrder n)) ≡ Err (BadOrder k) → (order_from (n + 1) b xs ≡ Err (BadOrder k) → FallsAt (n + 1) b xs k) → FallsAt n a (b ∷ xs) k
    by_test true q h more =
        let f = more h in record {
          place = suc f.place;
          is = omega (arith, f.is);
          within = omega (arith, f.within);
          falls = f.falls;
          before = rises_on a b (take f.place xs) (ltb-true a b q) f.before;
        }
    by_test false q h more = record {
      place = 0;
      is = let e = bad_is n k h in omega (arith, e);
      within = omega arith;
      falls = ltb-false a b q;
      before = λ i k. absurd (omega (arith, k));
    }

first_fall : (a : ℕ) (xs : List ℕ) (k : ℕ) → FallsAt 1 a xs k → IsFirstFall (a ∷ xs) k
first_fall a xs k f =
    let e : suc f.place ≡ k = omega (arith, f.is) in
    let here : IsFirstFall (a ∷ xs) (suc f.place) = record {
      some = omega arith;
      within = omega (arith, f.within);
      falls = let m : suc f.place - 1 ≡ f.place = omega arith in let P : ℕ → Type 0 = λ j. slice_index xs f.place ≤ slice_index (a ∷ xs) j in subst P (sym m) f.falls;
      before = f.before;
    } in
    subst (IsFirstFall (a ∷ xs)) e here

none_rises : IsStrictlyIncreasing []
none_rises i k = absurd (omega (arith, k))

pub judges_order : JudgesOrder
judges_order = record { rises = rises; falls = falls }
  where
    rises : (ps : List ℕ) → (order_result ps ≡ Ok tt) ↔ IsStrictlyIncreasing ps
    rises [] = ((λ e. none_rises), (λ r. refl))
    rises (a ∷ xs) = (order_rises 1 a xs, rises_order 1 a xs)

    falls : (ps : List ℕ) (k : ℕ) → order_result ps ≡ Err (BadOrder k) → IsFirstFall ps k
    falls [] k e = absurd (ok_err (BadOrder k) tt e)
    falls (a ∷ xs) k e = first_fall a xs k (order_falls 1 a xs k e)

-- ---- pieces on the timeline

pub times : (x n : ℕ) → 0 < n → x % n ≡ 0 → x / n * n ≡ x
times x n h e = omega (arith, h, e)

piece_is : (p q : Piece) → (let r : Result Piece PlanFault = Ok p in r) ≡ Ok q → p ≡ q
piece_is p q e = cc

within_timed : (k n from to : ℕ) (p : Piece) → piece_within k n from to ≡ Ok p → (p.from ≡ from) × (p.to ≡ to) × (from < n) × (to ≤ n)
within_timed k n from to p e = by_from (nat_lt from n) refl e
  where
    by_to : (t : Bool) → nat_lt n to ≡ t → from < n → (if t then Err (PastEnd k) else Ok (record { from = from; to = to })) ≡ Ok p → (p.from ≡ from) × (p.to ≡ to) × (from < n) × (to ≤ n)
    by_to true q l h = absurd (err_ok (PastEnd k) p h)
    by_to false q l h =
        let is : (let x : Piece = record { from = from; to = to } in x) ≡ p = piece_is _ p h in
        (sym (ap (λ (x : Piece). x.from) is), sym (ap (λ (x : Piece). x.to) is), l, ltb-false n to q)

    by_from : (t : Bool) → nat_lt from n ≡ t → (if t then (if nat_lt n to then Err (PastEnd k) else Ok (record { from = from; to = to })) else Err (PastEnd k)) ≡ Ok p → (p.from ≡ from) × (p.to ≡ to) × (from < n) × (to ≤ n)
    by_from true q h = by_to (nat_lt n to) refl (ltb-true from n q) h
    by_from false q h = absurd (err_ok (PastEnd k) p h)

timed_within : (k n from to : ℕ) → from < n → to ≤ n → piece_within k n from to ≡ Ok (record { from = from; to = to })
timed_within k n from to l h =
    ap (λ (t : Bool). if t then (if nat_lt n to then Err (PastEnd k) else Ok (record { from = from; to = to })) else Err (PastEnd k)) (lt-ltb from n l)
    ∙ ap (λ (t : Bool). if t then Err (PastEnd k) else Ok (record { from = from; to = to })) (le-ltb n to h)

placed_timed : (k : ℕ) (s : Shape) (at : ℕ) (u : Option ℕ) (p : Piece) → placed k s at u ≡ Ok p → IsTimed s at u p
placed_timed k s at u p e = by_at (at % s.frame_length == 0) refl e
  where
    timed : at % s.frame_length ≡ 0 → (v : Option ℕ) → piece_in k s.frames (bounds_until k s.frame_length (at / s.frame_length) v) ≡ Ok p → IsTimed s at v p
    timed m None h =
        let w = within_timed k s.frames (at / s.frame_length) s.frames p h in
        record { begins = ap (λ (n : ℕ). n * s.frame_length) w.0 ∙ times at s.frame_length s.some m; ends = w.1; some = omega (arith, w.0, w.2); within = omega (arith, w.1, w.3) }
    timed m (Some until) h = by_until (until % s.frame_length == 0) refl h
      where
        by_until : (t : Bool) → (until % s.frame_length == 0) ≡ t → piece_in k s.frames (if t then Ok (record { from = at / s.frame_length; to = Some (until / s.frame_length) }) else Err (NoFrameAt k until)) ≡ Ok p → IsTimed s at (Some until) p
        by_until true q h =
            let w = within_timed k s.frames (at / s.frame_length) (until / s.frame_length) p h in
            record { begins = ap (λ (n : ℕ). n * s.frame_length) w.0 ∙ times at s.frame_length s.some m; ends = ap (λ (n : ℕ). n * s.frame_length) w.1 ∙ times until s.frame_length s.some (eqb-true (until % s.frame_length) 0 q); some = omega (arith, w.0, w.2); within = omega (arith, w.1, w.3) }
        by_until false q h = absurd (err_ok (NoFrameAt k until) p h)

    by_at : (t : Bool) → (at % s.frame_length == 0) ≡ t → piece_in k s.frames (if t then bounds_until k s.frame_length (at / s.frame_length) u else Err (NoFrameAt k at)) ≡ Ok p → IsTimed s at u p
    by_at true q h = timed (eqb-true (at % s.frame_length) 0 q) u h
    by_at false q h = absurd (err_ok (NoFrameAt k at) p h)

timed_placed : (k : ℕ) (s : Shape) (at : ℕ) (u : Option ℕ) (p : Piece) → IsTimed s at u p → placed k s at u ≡ Ok p
timed_placed k s at u p h =
    ap (λ (t : Bool). piece_in k s.frames (if t then bounds_until k s.frame_length (at / s.frame_length) u else Err (NoFrameAt k at))) (eq-eqb (at % s.frame_length) 0 (ap (λ (n : ℕ). n % s.frame_length) (sym h.begins) ∙ mul-mod_left p.from s.frame_length))
    ∙ by_end u h.ends
  where
    from_is : at / s.frame_length ≡ p.from
    from_is = ap (λ (n : ℕ). n / s.frame_length) (sym h.begins) ∙ mul-div_cancel p.from s.some

    found : (to : ℕ) → to ≡ p.to → piece_within k s.frames (at / s.frame_length) to ≡ Ok p
    found to e =
        ap (λ (n : ℕ). piece_within k s.frames n to) from_is
        ∙ (ap (piece_within k s.frames p.from) e ∙ timed_within k s.frames p.from p.to h.some h.within)

    by_end : (v : Option ℕ) → EndsAt s v p → piece_in k s.frames (bounds_until k s.frame_length (at / s.frame_length) v) ≡ Ok p
    by_end None e = found s.frames (sym e)
    by_end (Some until) e =
        ap (λ (t : Bool). piece_in k s.frames (if t then Ok (record { from = at / s.frame_length; to = Some (until / s.frame_length) }) else Err (NoFrameAt k until))) (eq-eqb (until % s.frame_length) 0 (ap (λ (n : ℕ). n % s.frame_length) (sym e) ∙ mul-mod_left p.to s.frame_length))
        ∙ found (until / s.frame_length) (ap (λ (n : ℕ). n / s.frame_length) (sym e) ∙ mul-div_cancel p.to s.some)

result_timed : (k : ℕ) (b : Option Shape) (s : Shape) (at : ℕ) (u : Option ℕ) (p : Piece) → piece_result k b s at u ≡ Ok p → GoesOn b s × IsTimed s at u p
result_timed k None s at u p e = (tt, placed_timed k s at u p e)
result_timed k (Some b) s at u p e = by_rate (b.rate == s.rate) refl e
  where
    by_channels : (t : Bool) → (b.channels == s.channels) ≡ t → b.rate ≡ s.rate → (if t then placed k s at u else Err (ChannelsDiffer k)) ≡ Ok p → GoesOn (Some b) s × IsTimed s at u p
    by_channels true q r h = ((r, eqb-true b.channels s.channels q), placed_timed k s at u p h)
    by_channels false q r h = absurd (err_ok (ChannelsDiffer k) p h)

    by_rate : (t : Bool) → (b.rate == s.rate) ≡ t → (if t then (if b.channels == s.channels then placed k s at u else Err (ChannelsDiffer k)) else Err (RateDiffers k)) ≡ Ok p → GoesOn (Some b) s × IsTimed s at u p
    by_rate true q h = by_channels (b.channels == s.channels) refl (eqb-true b.rate s.rate q) h
    by_rate false q h = absurd (err_ok (RateDiffers k) p h)

timed_result : (k : ℕ) (b : Option Shape) (s : Shape) (at : ℕ) (u : Option ℕ) (p : Piece) → GoesOn b s → IsTimed s at u p → piece_result k b s at u ≡ Ok p
timed_result k None s at u p g h = timed_placed k s at u p h
timed_result k (Some b) s at u p g h =
    ap (λ (t : Bool). if t then (if b.channels == s.channels then placed k s at u else Err (ChannelsDiffer k)) else Err (RateDiffers k)) (eq-eqb b.rate s.rate g.0)
    ∙ (ap (λ (t : Bool). if t then placed k s at u else Err (ChannelsDiffer k)) (eq-eqb b.channels s.channels g.1) ∙ timed_placed k s at u p h)

pieces_are : (p : Piece) (qs : List Piece) (r : Result (List Piece) PlanFault) → with_pieces p r ≡ Ok qs → (rest : List Piece) × (r ≡ Ok rest) × (qs ≡ p ∷ rest)
pieces_are p qs (Err e) h = absurd (err_ok e qs h)
pieces_are p qs (Ok rest) h = (rest, refl, (let e : (let r : Result (List Piece) PlanFault = Ok (p ∷ rest) in r) ≡ Ok qs = h in cc))

plan_timed : (k : ℕ) (b : Option Shape) (ss : List Shape) (ats : List ℕ) (ps : List Piece) → length ss ≡ length ats → plan_from k b ss ats ≡ Ok ps → AreTimed b ss ats ps
plan_timed k b [] [] ps l e = let is : [] ≡ ps = cc in let P : List Piece → Type 0 = AreTimed b [] [] in subst P is tt
plan_timed k b [] (at ∷ ats) ps l e = absurd (omega (arith, l))
plan_timed k b (s ∷ ss) [] ps l e = absurd (omega (arith, l))
plan_timed k b (s ∷ ss) (at ∷ ats) ps l e = by_piece (piece_result k b s at (first_position ats)) refl e (λ rest q. plan_timed (k + 1) (Some s) ss ats rest (omega (arith, l)) q)
  where
    by_piece : (r : Result Piece PlanFault) → piece_result k b s at (first_position ats) ≡ r → and_then r (plan_from (k + 1) (Some s) ss ats) ≡ Ok ps
        → ((rest : List Piece) → plan_from (k + 1) (Some s) ss ats ≡ Ok rest → AreTimed (Some s) ss ats rest) → AreTimed b (s ∷ ss) (at ∷ ats) ps
    by_piece (Err x) q h more = absurd (err_ok x ps h)
    by_piece (Ok p) q h more =
        let m = pieces_are p ps (plan_from (k + 1) (Some s) ss ats) h in
        let t = result_timed k b s at (first_position ats) p q in
        let P : List Piece → Type 0 = AreTimed b (s ∷ ss) (at ∷ ats) in
        subst P (sym m.2) (t.0, t.1, more m.0 m.1)

timed_plan : (k : ℕ) (b : Option Shape) (ss : List Shape) (ats : List ℕ) (ps : List Piece) → AreTimed b ss ats ps → plan_from k b ss ats ≡ Ok ps
timed_plan k b [] [] [] h = refl
timed_plan k b [] [] (p ∷ ps) h = absurd h
timed_plan k b [] (at ∷ ats) ps h = absurd h
timed_plan k b (s ∷ ss) [] ps h = absurd h
timed_plan k b (s ∷ ss) (at ∷ ats) [] h = absurd h
timed_plan k b (s ∷ ss) (at ∷ ats) (p ∷ ps) h =
    ap (λ (r : Result Piece PlanFault). and_then r (plan_from (k + 1) (Some s) ss ats)) (timed_result k b s at (first_position ats) p h.0 h.1)
    ∙ ap (with_pieces p) (timed_plan (k + 1) (Some s) ss ats ps h.2)

pub plans_timed : PlansTimed
plans_timed shapes positions pieces l = (planned, timed)
  where
    by_order : (o : Result (Unit {0}) PlanFault) → order_result positions ≡ o → where_ordered o (plan_from 0 None shapes positions) ≡ Ok pieces → IsStrictlyIncreasing positions × AreTimed None shapes positions pieces
    by_order (Err x) q h = absurd (err_ok x pieces h)
    by_order (Ok x) q h = ((judges_order.rises positions).0 q, plan_timed 0 None shapes positions pieces l h)

    planned : plan_result shapes positions ≡ Ok pieces → IsStrictlyIncreasing positions × AreTimed None shapes positions pieces
    planned e = by_order (order_result positions) refl e

    timed : IsStrictlyIncreasing positions × AreTimed None shapes positions pieces → plan_result shapes positions ≡ Ok pieces
    timed h = ap (λ (o : Result (Unit {0}) PlanFault). where_ordered o (plan_from 0 None shapes positions)) ((judges_order.rises positions).1 h.0) ∙ timed_plan 0 None shapes positions pieces h.1
