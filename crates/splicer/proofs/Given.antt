-- The frames that a run says are of the piece are the frames of the piece.
use Rattle.std.proofs.Common.{◌≡◌, ℕ, zero, suc, ◌+◌, ◌-◌, ◌/◌, ◌≤◌, ◌<◌, Bool, true, false, List, [], ◌∷◌, ◌++◌, length, take, drop, Option, Some, None, refl, ap, sym, subst, ◌∙◌, arith, ◌⊎◌, inl, inr}
use Rattle.std.specs.Prelude.{◌==◌, ◌&&◌, nat_lt, is_none, slice_range, if◌then◌else◌}
use Rattle.std.proofs.lemmas.List.{take_all}
use Rattle.std.proofs.lemmas.Bool.{eq-eqb, ltb-true, ltb-false, lt-ltb, le-ltb}
use Rattle.std.proofs.lemmas.Bool.Decides.{nat_tests}
use Rattle.std.proofs.lemmas.List.Elements.{All-head, All-tail}
use Rattle.std.proofs.Math.Nat.{mul-div_cancel}
use Rattle.usac_cfg.specs.declared.usac_config.UsacConfig.{UsacConfig}
use Rattle.usac_cfg.specs.UsacConfig.{IsWellFormed, frame_length}
use Rattle.usac_frame.specs.Units.{UnitValue}
use Rattle.preroll.specs.Carrying.{units_in, fades_in, carried_in}
use Rattle.timeline.specs.declared.piece.Piece.{Piece}
use Rattle.plans.specs.Coded.{Coded}
use Rattle.plans.specs.Parts.{part_frames}
use Rattle.splicer.specs.declared.asked.Asked.{Asked}
use Rattle.splicer.specs.declared.turn.Turn.{Turn}
use Rattle.splicer.specs.declared.turn.Turn.TheVariants.{Skip, Play, After}
use Rattle.splicer.specs.Foreign.{last_n}
use Rattle.splicer.specs.Rules.{from_of}
use Rattle.splicer.specs.Turns.{frame_until, to_of, is_before, beginning, turn_at}
use Rattle.splicer.specs.Runs.{new_run}
use Rattle.splicer.specs.Pieces.{EndsAt, part_of, IsSoundPiece, is_given, given_if, given}
use Rattle.splicer.specs.Laws.{GivesFrames}
use Rattle.splicer.proofs.Refusals.{some_length}
use Rattle.splicer.proofs.Later.{unit_at, AreOf, AreWell, later}
use Rattle.splicer.proofs.Pieces.{gives_sound_pieces}

other_number : (x y : ℕ) → y < x → (x == y) ≡ false
other_number x y h = grind (arith, nat_tests)

-- where the frames end that a piece has
abbrev pub IsBound : Option ℕ → ℕ → ℕ → Type 0
IsBound None top n = n ≤ top
IsBound (Some to) top n = to ≡ top

order : (x y : ℕ) → (x < y) ⊎ ((x ≡ y) ⊎ (y < x))
order zero zero = inr (inl refl)
order zero (suc y) = inl (omega arith)
order (suc x) zero = inr (inr (omega arith))
order (suc x) (suc y) = elim (order x y) [ inl h ↦ inl (omega (arith, h)) | inr r ↦ elim r [ inl e ↦ inr (inl (omega (arith, e))) | inr g ↦ inr (inr (omega (arith, g))) ] ]

begins_given : (t : Bool) (n : ℕ) (b : Bool) → is_given (beginning t n b) ≡ true
begins_given true n b = refl
begins_given false n b = refl

module _ (from : ℕ) (t : Option ℕ) (b : Bool) (n : ℕ) (us : List UnitValue) (fade : Bool) where
  abbrev turn_here : Turn
  turn_here = turn_at from t b n us fade

  abbrev first_here : Turn
  first_here = beginning ((from == 0) && b) (length us) fade

  abbrev later_here : Turn
  later_here = if is_before n t then Play else After

  skips : n < from → is_given turn_here ≡ false
  skips h = ap (λ (x : Bool). is_given (if x then Skip else (if n == from then first_here else later_here))) (lt-ltb n from h)

  begins : n ≡ from → is_given turn_here ≡ true
  begins h =
      ap (λ (x : Bool). is_given (if x then Skip else (if n == from then first_here else later_here))) (le-ltb n from (omega (arith, h)))
      ∙ (ap (λ (x : Bool). is_given (if x then first_here else later_here)) (eq-eqb n from h) ∙ begins_given ((from == 0) && b) (length us) fade)

  goes_on : from < n → is_given turn_here ≡ is_before n t
  goes_on h =
      ap (λ (x : Bool). is_given (if x then Skip else (if n == from then first_here else later_here))) (le-ltb n from (omega (arith, h)))
      ∙ (ap (λ (x : Bool). is_given (if x then first_here else later_here)) (other_number n from h) ∙ either (is_before n t))
    where
      either : (x : Bool) → is_given (if x then Play else After) ≡ x
      either true = refl
      either false = refl

  before_is : (top m : ℕ) → n < m → IsBound t top m → is_before n t ≡ nat_lt n top
  before_is top m h i = by_bound t i
    where
      by_bound : (u : Option ℕ) → IsBound u top m → is_before n u ≡ nat_lt n top
      by_bound None i = sym (lt-ltb n top (omega (arith, h, i)))
      by_bound (Some to) i = ap (nat_lt n) i

  turn_given : (top m : ℕ) → n < m → IsBound t top m → from < top → is_given turn_here ≡ (if nat_lt n from then false else nat_lt n top)
  turn_given top m h i l = by_order (order n from)
    where
      by_order : (n < from) ⊎ ((n ≡ from) ⊎ (from < n)) → is_given turn_here ≡ (if nat_lt n from then false else nat_lt n top)
      by_order (inl o) = skips o ∙ ap (λ (x : Bool). if x then false else nat_lt n top) (sym (lt-ltb n from o))
      by_order (inr (inl o)) = begins o ∙ (sym (lt-ltb n top (omega (arith, o, l))) ∙ ap (λ (x : Bool). if x then false else nat_lt n top) (sym (le-ltb n from (omega (arith, o)))))
      by_order (inr (inr o)) = goes_on o ∙ (before_is top m h i ∙ ap (λ (x : Bool). if x then false else nat_lt n top) (sym (le-ltb n from (omega (arith, o)))))

-- ---- a part of a list

drop_nil : (m : ℕ) (fs : List Coded) → drop m (take 0 fs) ≡ []
drop_nil zero fs = refl
drop_nil (suc m) fs = refl

none_left : (k m : ℕ) → drop k (take m (let xs : List Coded = [] in xs)) ≡ []
none_left zero zero = refl
none_left (suc k) zero = refl
none_left zero (suc m) = refl
none_left (suc k) (suc m) = refl

-- one frame on
part_on : (from top n : ℕ) (f : Coded) (fs : List Coded) → from < top → given_if (if nat_lt n from then false else nat_lt n top) f (drop (from - (n + 1)) (take (top - (n + 1)) fs)) ≡ drop (from - n) (take (top - n) (f ∷ fs))
part_on from top n f fs l = by_from (nat_lt n from) refl
  where
    by_top : (t : Bool) → nat_lt n top ≡ t → from ≤ n → given_if t f (drop (from - (n + 1)) (take (top - (n + 1)) fs)) ≡ drop (from - n) (take (top - n) (f ∷ fs))
    by_top true q h =
        let g = ltb-true n top q in
        let a : from - (n + 1) ≡ 0 = omega (arith, h) in
        let b : from - n ≡ 0 = omega (arith, h) in
        let c : top - n ≡ suc (top - (n + 1)) = omega (arith, g) in
        ap (λ (k : ℕ). f ∷ drop k (take (top - (n + 1)) fs)) a ∙ (ap (λ (k : ℕ). drop 0 (take k (f ∷ fs))) (sym c) ∙ ap (λ (k : ℕ). drop k (take (top - n) (f ∷ fs))) (sym b))
    by_top false q h =
        let g = ltb-false n top q in
        let a : top - (n + 1) ≡ 0 = omega (arith, g) in
        let b : top - n ≡ 0 = omega (arith, g) in
        ap (λ (k : ℕ). drop (from - (n + 1)) (take k fs)) a ∙ (drop_nil (from - (n + 1)) fs ∙ (sym (drop_nil (from - n) (f ∷ fs)) ∙ ap (λ (k : ℕ). drop (from - n) (take k (f ∷ fs))) (sym b)))

    by_from : (t : Bool) → nat_lt n from ≡ t → given_if (if t then false else nat_lt n top) f (drop (from - (n + 1)) (take (top - (n + 1)) fs)) ≡ drop (from - n) (take (top - n) (f ∷ fs))
    by_from true q =
        let g = ltb-true n from q in
        let a : from - n ≡ suc (from - (n + 1)) = omega (arith, g) in
        let b : top - n ≡ suc (top - (n + 1)) = omega (arith, g, l) in
        ap (λ (k : ℕ). drop (suc (from - (n + 1))) (take k (f ∷ fs))) (sym b) ∙ ap (λ (k : ℕ). drop k (take (top - n) (f ∷ fs))) (sym a)
    by_from false q = by_top (nat_lt n top) refl (ltb-false n from q)

-- a part by its end
pub part_ends : (from to : ℕ) (fs : List Coded) → slice_range fs from to ≡ drop from (take to fs)
part_ends zero to fs = let e : to - 0 ≡ to = omega arith in ap (λ (n : ℕ). take n fs) e
part_ends (suc from) zero fs = let e : 0 - suc from ≡ 0 = omega arith in ap (λ (n : ℕ). take n (drop (suc from) fs)) e
part_ends (suc from) (suc to) [] = take_all (suc to - suc from) [] (omega arith)
part_ends (suc from) (suc to) (f ∷ fs) = let e : suc to - suc from ≡ to - from = omega arith in ap (λ (n : ℕ). take n (drop from fs)) e ∙ part_ends from to fs

-- ---- frames of one configuration

module _ (a : Asked) (c : UsacConfig) (top : ℕ) (low : from_of a c < top) where
  abbrev goes_at : ℕ → Coded → UsacConfig → Bool
  goes_at n f d = is_given (turn_at (from_of a d) (to_of a d) (is_none a.before) n (units_in (carried_in f.config f.au)) (fades_in (carried_in f.config f.au)))

  goes_is : (n : ℕ) (f : Coded) (m : ℕ) → f.config ≡ c → n < m → IsBound (to_of a c) top m → goes_at n f f.config ≡ (if nat_lt n (from_of a c) then false else nat_lt n top)
  goes_is n f m e h i =
      ap (goes_at n f) e ∙ turn_given (from_of a c) (to_of a c) (is_none a.before) n (units_in (carried_in f.config f.au)) (fades_in (carried_in f.config f.au)) top m h i low

  given_later : (n : ℕ) (kept : List UnitValue) (fs : List Coded) → AreOf c fs → IsBound (to_of a c) top (n + length fs) → given (later a c n kept) fs ≡ drop (from_of a c - n) (take (top - n) fs)
  given_later n kept [] of_one h = sym (none_left (from_of a c - n) (top - n))
  given_later n kept (f ∷ fs) of_one h =
      let e : n + length (f ∷ fs) ≡ n + 1 + length fs = omega arith in
      let P : ℕ → Type 0 = IsBound (to_of a c) top in
      let rest = given_later (n + 1) (last_n 18 (kept ++ unit_at f ∷ [])) fs (All-tail (λ g. g.config ≡ c) f fs of_one) (subst P e h) in
      let goes = goes_is n f (n + length (f ∷ fs)) (All-head (λ g. g.config ≡ c) f fs of_one) (omega arith) h in
      ap (λ (x : Bool). given_if x f (given (later a c (n + 1) (last_n 18 (kept ++ unit_at f ∷ []))) fs)) goes
      ∙ (ap (given_if (if nat_lt n (from_of a c) then false else nat_lt n top) f) rest ∙ part_on (from_of a c) top n f fs low)

-- from the first frame on
pub given_first : (a : Asked) (f : Coded) (rest : List Coded) (top : ℕ) → from_of a f.config < top → AreOf f.config (f ∷ rest) → IsBound (to_of a f.config) top (length (f ∷ rest)) → given (new_run a) (f ∷ rest) ≡ drop (from_of a f.config) (take top (f ∷ rest))
given_first a f rest top low of_one h =
    let c = f.config in
    let kept = last_n 18 (units_in (carried_in f.config f.au) ++ unit_at f ∷ []) in
    let e : length (f ∷ rest) ≡ 1 + length rest = omega arith in
    let P : ℕ → Type 0 = IsBound (to_of a c) top in
    let more = given_later a c top low 1 kept rest (All-tail (λ g. g.config ≡ c) f rest of_one) (subst P e h) in
    let goes = goes_is a c top low 0 f (length (f ∷ rest)) refl (omega arith) h in
    let from : from_of a c - 0 ≡ from_of a c = omega arith in
    let to : top - 0 ≡ top = omega arith in
    ap (λ (x : Bool). given_if x f (given (later a c 1 kept) rest)) goes
    ∙ (ap (given_if (if nat_lt 0 (from_of a c) then false else nat_lt 0 top) f) more
    ∙ (part_on (from_of a c) top 0 f rest low
    ∙ (ap (λ (k : ℕ). drop k (take (top - 0) (f ∷ rest))) from ∙ ap (λ (k : ℕ). drop (from_of a c) (take k (f ∷ rest))) to)))

-- ---- a sound piece

sound_given : (warm : UsacConfig → ℕ) (a : Asked) (fs : List Coded) (p : Piece) → AreWell fs → IsSoundPiece warm a fs p → given (new_run a) fs ≡ part_frames (part_of fs p)
sound_given warm a [] p well s = absurd s.part.stream
sound_given warm a (f ∷ rest) p well s =
    let low : p.from < p.to = s.part.some in
    given_first a f rest p.to (omega (arith, from_is, low)) s.part.stream.0 (bound a.until s.timed.ends)
    ∙ (ap (λ (k : ℕ). drop k (take p.to (f ∷ rest))) from_is ∙ sym (part_ends p.from p.to (f ∷ rest)))
  where
    some : 0 < frame_length f.config
    some = some_length f.config (All-head (λ g. IsWellFormed g.config) f rest well)

    from_is : from_of a f.config ≡ p.from
    from_is = ap (λ (x : ℕ). x / frame_length f.config) (sym s.timed.begins) ∙ mul-div_cancel p.from some

    bound : (u : Option ℕ) → EndsAt u (part_of (f ∷ rest) p) → IsBound (frame_until u (frame_length f.config)) p.to (length (f ∷ rest))
    bound None e = omega (arith, e)
    bound (Some u) e = ap (λ (x : ℕ). x / frame_length f.config) (sym e) ∙ mul-div_cancel p.to some

pub gives_frames : GivesFrames
gives_frames warm a fs p before rises well g = sound_given warm a fs p well ((gives_sound_pieces warm a fs p before rises well).0 g)
