-- Frames in the words of plans, and lists of them.
use Rattle.std.proofs.Common.{◌≡◌, ℕ, zero, suc, ◌+◌, ◌<◌, Bool, true, false, List, [], ◌∷◌, ◌++◌, length, take, map, Some, None, Result, Ok, Err, refl, ap, sym, subst, ◌∙◌, arith, inl, inr}
use Rattle.std.specs.Prelude.{◌==◌, All, slice_get}
use Rattle.std.proofs.lemmas.Bool.{eqb-true, eq-eqb}
use Rattle.std.proofs.lemmas.List.Elements.{All-nil, All-cons, All-head, All-tail}
use Rattle.usac_cfg.specs.UsacConfig.{IsWellFormed}
use Rattle.usac_frame.specs.AccessUnit.{unit_in}
use Rattle.usac_frame.specs.Units.{UnitValue, payload_length}
use Rattle.preroll.specs.declared.fault.CarryFault.{CarryFault}
use Rattle.preroll.specs.declared.fault.CarryFault.TheVariants.{NotImmediate}
use Rattle.preroll.specs.Carried.{preroll_bytes}
use Rattle.preroll.specs.Carrying.{Carried, IsJudged, units_in, short_at, carried_of, carried_in}
use Rattle.preroll.proofs.Judging.{judged, carried_is, carried_in_frame}
use Rattle.plans.specs.Coded.{Coded, coded_shown, IsCoded, CarriesUnits}
use Rattle.plans.specs.WholeStream.{OpensStream}
use Rattle.plans.specs.StreamUnits.{units_of, head_of}
use Rattle.splicer.specs.declared.fault.SpliceFault.TheVariants.{NotIndependent}
use Rattle.splicer.specs.Rules.{fault_if_not, carry_rule, start_of, start_rule}
use Rattle.splicer.specs.SeenFound.{not_short, frame_there, unit_seen, bytes_seen}
use Rattle.splicer.proofs.Bounds.{passed}
use Rattle.splicer.proofs.Joining.{some_not_none}
use Rattle.splicer.proofs.Later.{unit_at, own_units, AreRead, AreWell}

none_some : {X : Type 0} (x : X) → None ≡ Some x → ⊥
none_some x e = cc

-- ---- lists of frames

pub all_at : {X : Type 0} (P : X → Type 0) (xs : List X) (i : ℕ) (x : X) → slice_get xs i ≡ Some x → All P xs → P x
all_at P [] i x e h = absurd (none_some x e)
all_at P (y ∷ ys) zero x e h = let f : y ≡ x = cc in subst P f (All-head P y ys h)
all_at P (y ∷ ys) (suc i) x e h = all_at P ys i x e (All-tail P y ys h)

pub get_some : (fs : List Coded) (i : ℕ) → i < length fs → (x : Coded) × (slice_get fs i ≡ Some x)
get_some [] i h = absurd (omega arith)
get_some (f ∷ fs) zero h = (f, refl)
get_some (f ∷ fs) (suc i) h = get_some fs i (omega arith)

pub own_shown : (fs : List Coded) → map (λ g. g.unit) (map coded_shown fs) ≡ own_units fs
own_shown [] = refl
own_shown (f ∷ fs) = ap (λ us. unit_at f ∷ us) (own_shown fs)

take_own : (m : ℕ) (fs : List Coded) → take m (own_units fs) ≡ own_units (take m fs)
take_own zero fs = refl
take_own (suc m) [] = refl
take_own (suc m) (f ∷ fs) = ap (λ us. unit_at f ∷ us) (take_own m fs)

take_past : (us vs : List UnitValue) (m : ℕ) → take (length us + m) (us ++ vs) ≡ us ++ take m vs
take_past [] vs m = let e : 0 + m ≡ m = omega arith in ap (λ n. take n vs) e
take_past (u ∷ us) vs m = let e : length (u ∷ us) + m ≡ suc (length us + m) = omega arith in ap (λ n. take n (u ∷ us ++ vs)) e ∙ ap (λ ws. u ∷ ws) (take_past us vs m)

-- the stream's units before frame n: those that frame 0 carries, and those of the frames before
pub units_until : (f : Coded) (rest : List Coded) (n : ℕ)
    → take (head_of (map coded_shown (f ∷ rest)) + n) (units_of (map coded_shown (f ∷ rest))) ≡ units_in (carried_in f.config f.au) ++ own_units (take n (f ∷ rest))
units_until f rest n =
    let us = units_in (carried_in f.config f.au) in
    take_past us (map (λ g. g.unit) (map coded_shown (f ∷ rest))) n
    ∙ ap (λ vs. us ++ vs) (ap (take n) (own_shown (f ∷ rest)) ∙ take_own n (f ∷ rest))

-- ---- frames in the words of plans

pub carries_units : (f : Coded) (k : Carried) → IsWellFormed f.config → short_at f.config f.au ≡ None → carried_in f.config f.au ≡ Ok k → CarriesUnits f k
carries_units f k w s e =
    let g = frame_there f.config f.au s in
    let is : carried_of f.config g.0 ≡ Ok k = sym (carried_in_frame f.config f.au g.0 g.1) ∙ e in
    record { frame = g.0; is = g.1; carries = let P : Result Carried CarryFault → Type 0 = IsJudged f.config g.0 in subst P is (judged f.config g.0 w) }

pub units_carried : (f : Coded) (k : Carried) → IsWellFormed f.config → CarriesUnits f k → carried_in f.config f.au ≡ Ok k
units_carried f k w h = carried_in_frame f.config f.au h.frame h.is ∙ carried_is.found f.config h.frame (Ok k) w h.carries

is_coded : (f : Coded) → IsWellFormed f.config → short_at f.config f.au ≡ None → IsCoded f
is_coded f w s = let g = frame_there f.config f.au s in record { config = w; frame = g.0; is = g.1 }

coded_read : (f : Coded) → IsCoded f → short_at f.config f.au ≡ None
coded_read f h = not_short f.config f.au h.frame h.is

pub all_coded : (fs : List Coded) → AreWell fs → AreRead fs → All IsCoded fs
all_coded [] w r = All-nil IsCoded
all_coded (f ∷ fs) w r =
    All-cons IsCoded f fs (is_coded f (All-head (λ g. IsWellFormed g.config) f fs w) (All-head (λ g. short_at g.config g.au ≡ None) f fs r)) (all_coded fs (All-tail (λ g. IsWellFormed g.config) f fs w) (All-tail (λ g. short_at g.config g.au ≡ None) f fs r))

pub all_read : (fs : List Coded) → All IsCoded fs → AreRead fs
all_read [] h = All-nil (λ g. short_at g.config g.au ≡ None)
all_read (f ∷ fs) h = All-cons (λ g. short_at g.config g.au ≡ None) f fs (coded_read f (All-head IsCoded f fs h)) (all_read fs (All-tail IsCoded f fs h))

-- A stream may begin with a frame that breaks no rule of a start, and with no other.
pub start_opens : (f : Coded) → IsWellFormed f.config → short_at f.config f.au ≡ None → start_rule f ≡ None → OpensStream f
start_opens f w s e = by_bytes (preroll_bytes f.config f.au == 0) refl e
  where
    there : (x : Result Carried CarryFault) → carried_in f.config f.au ≡ x → carry_rule 0 x ≡ None → OpensStream f
    there (Err x) q h = absurd (some_not_none _ h)
    there (Ok k) q h = inr (k, carries_units f k w s q)

    by_bytes : (b : Bool) → (preroll_bytes f.config f.au == 0) ≡ b → start_of b (unit_in f.config f.au).independent (carried_in f.config f.au) ≡ None → OpensStream f
    by_bytes true q h =
        let g = frame_there f.config f.au s in
        let alone : (unit_in f.config f.au).independent ≡ true = passed (unit_in f.config f.au).independent (NotIndependent 0) h in
        inl (record {
          frame = g.0;
          is = g.1;
          bare = sym (bytes_seen f.config f.au g.0 g.1) ∙ eqb-true (preroll_bytes f.config f.au) 0 q;
          independent = ap (λ (u : UnitValue). u.independent) (sym (unit_seen f.config f.au g.0 g.1)) ∙ alone;
        })
    by_bytes false q h = there (carried_in f.config f.au) refl h

pub opens_start : (f : Coded) → IsWellFormed f.config → OpensStream f → start_rule f ≡ None
opens_start f w (inl p) =
    let bare : (preroll_bytes f.config f.au == 0) ≡ true = eq-eqb (preroll_bytes f.config f.au) 0 (bytes_seen f.config f.au p.frame p.is ∙ p.bare) in
    let alone : (unit_in f.config f.au).independent ≡ true = ap (λ (u : UnitValue). u.independent) (unit_seen f.config f.au p.frame p.is) ∙ p.independent in
    ap (λ (b : Bool). start_of b (unit_in f.config f.au).independent (carried_in f.config f.au)) bare ∙ ap (λ (b : Bool). fault_if_not b (NotIndependent 0)) alone
opens_start f w (inr h) = by_bytes (preroll_bytes f.config f.au == 0) refl
  where
    is : carried_in f.config f.au ≡ Ok h.0
    is = units_carried f h.0 w h.1

    by_bytes : (b : Bool) → (preroll_bytes f.config f.au == 0) ≡ b → start_of b (unit_in f.config f.au).independent (carried_in f.config f.au) ≡ None
    by_bytes true q =
        let none : payload_length f.config h.1.frame ≡ 0 = sym (bytes_seen f.config f.au h.1.frame h.1.is) ∙ eqb-true (preroll_bytes f.config f.au) 0 q in
        absurd (h.1.carries.keeps NotImmediate none)
    by_bytes false q = ap (carry_rule 0) is
