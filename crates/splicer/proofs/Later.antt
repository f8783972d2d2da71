-- The rules of a rendition's later frames, by all units of its stream.
use Rattle.std.proofs.Common.{◌≡◌, ℕ, zero, suc, ◌+◌, Bool, true, false, List, [], ◌∷◌, ◌++◌, length, take, map, Option, Some, None, refl, ap, sym, subst, ◌∙◌, arith}
use Rattle.std.specs.Prelude.{◌==◌, if◌then◌else◌, All, slice_get}
use Rattle.std.proofs.lemmas.List.{append_assoc, append-nil}
use Rattle.std.proofs.lemmas.Bool.{eqb-true, eq-eqb}
use Rattle.std.proofs.lemmas.List.Elements.{All-nil, All-cons, All-head, All-tail}
use Rattle.usac_cfg.specs.declared.usac_config.UsacConfig.{UsacConfig}
use Rattle.usac_cfg.specs.UsacConfig.{IsWellFormed}
use Rattle.usac_cfg.specs.Same.{same}
use Rattle.usac_cfg.specs.SameFound.{same_true, same_equal}
use Rattle.usac_frame.specs.AccessUnit.{unit_in}
use Rattle.usac_frame.specs.Units.{UnitValue}
use Rattle.preroll.specs.Carrying.{short_at, carried_in}
use Rattle.plans.specs.Coded.{Coded}
use Rattle.splicer.specs.declared.asked.Asked.{Asked}
use Rattle.splicer.specs.declared.fault.SpliceFault.{SpliceFault}
use Rattle.splicer.specs.declared.fault.SpliceFault.TheVariants.{ConfigChanges}
use Rattle.splicer.specs.Foreign.{last_n}
use Rattle.splicer.specs.ForeignFound.{last_n-push}
use Rattle.splicer.specs.Rules.{or_then, fault_if_not, short_rule, join_rule, from_of}
use Rattle.splicer.specs.Runs.{RunValue, fault, run_over, end, piece_of}
use Rattle.splicer.specs.Pieces.{fault_over}
use Rattle.splicer.proofs.Joining.{Joins, rule_joins, joins_rule, rule_by_last, few_carried, or_first, or_second, or_both, some_not_none}

abbrev pub unit_at : Coded → UnitValue
unit_at f = unit_in f.config f.au

abbrev pub own_units : List Coded → List UnitValue
own_units fs = map unit_at fs

-- frames of one configuration
abbrev pub AreOf : UsacConfig → List Coded → Type 0
AreOf c fs = All (λ f. f.config ≡ c) fs

-- access units none of which is too short
abbrev pub AreRead : List Coded → Type 0
AreRead fs = All (λ f. short_at f.config f.au ≡ None) fs

abbrev pub AreWell : List Coded → Type 0
AreWell fs = All (λ f. IsWellFormed f.config) fs

-- It may be joined behind a configuration and units of its stream.
abbrev pub MayJoin : (UsacConfig → ℕ) → Option UsacConfig → List UnitValue → Coded → Type 0
MayJoin warm b us f = Joins b (warm f.config) us f.config (carried_in f.config f.au)

abbrev pub later : Asked → UsacConfig → ℕ → List UnitValue → RunValue
later a c n kept = record { asked = a; first = Some c; frames = n; kept = kept; ended = false }

-- later frames break no rule, by all of the stream's units
abbrev pub LaterFine : (UsacConfig → ℕ) → Asked → UsacConfig → ℕ → List UnitValue → List Coded → Type 0
LaterFine warm a c n us [] = Unit {0}
LaterFine warm a c n us (f ∷ fs) =
    (f.config ≡ c) × (from_of a c ≡ n → MayJoin warm a.before us f) × LaterFine warm a c (n + 1) (us ++ unit_at f ∷ []) fs × (short_at f.config f.au ≡ None)

if_fine : (b t : Bool) (s : Option ℕ) (n : ℕ) (j : Option SpliceFault) → or_then (fault_if_not b (ConfigChanges n)) (or_then (short_rule n s) (if t then j else None)) ≡ None → (b ≡ true) × (t ≡ true → j ≡ None) × (s ≡ None)
if_fine true true None n j h = (refl, (λ q. h), refl)
if_fine true false None n j h = (refl, (λ q. absurd (let f : false ≡ true = q in cc)), refl)
if_fine true t (Some at) n j h = absurd (some_not_none _ h)
if_fine false t s n j h = absurd (some_not_none _ h)

fine_if : (b t : Bool) (s : Option ℕ) (n : ℕ) (j : Option SpliceFault) → b ≡ true → (t ≡ true → j ≡ None) → s ≡ None → or_then (fault_if_not b (ConfigChanges n)) (or_then (short_rule n s) (if t then j else None)) ≡ None
fine_if true true None n j q h k = h refl
fine_if true false None n j q h k = refl
fine_if true t (Some at) n j q h k = absurd (let f : Some at ≡ None = k in cc)
fine_if false t s n j q h k = absurd (let f : false ≡ true = q in cc)

module _ (warm : UsacConfig → ℕ) (a : Asked) (c : UsacConfig) (w : IsWellFormed c) where
  -- the rule of a join at a frame, by all units and by the last
  by_last : (n : ℕ) (us : List UnitValue) (f : Coded) → IsWellFormed f.config → join_rule a.before n (warm f.config) (last_n 18 us) f.config (carried_in f.config f.au) ≡ join_rule a.before n (warm f.config) us f.config (carried_in f.config f.au)
  by_last n us f v = rule_by_last a.before n (warm f.config) us f.config (carried_in f.config f.au) (few_carried f.config f.au v)

  pub walk_fine : (n : ℕ) (us : List UnitValue) (fs : List Coded) → AreWell fs → fault_over warm (later a c n (last_n 18 us)) fs ≡ None → LaterFine warm a c n us fs
  walk_fine n us [] well e = tt
  walk_fine n us (f ∷ fs) well e =
      let first = or_first (fault (later a c n (last_n 18 us)) (warm f.config) f) _ e in
      let rest = or_second (fault (later a c n (last_n 18 us)) (warm f.config) f) _ e in
      let p = if_fine (same c f.config) (from_of a f.config == n) (short_at f.config f.au) n _ first in
      let v = All-head (λ g. IsWellFormed g.config) f fs well in
      let is : c ≡ f.config = same_true c f.config w v p.0 in
      let rest' : fault_over warm (later a c (n + 1) (last_n 18 (us ++ unit_at f ∷ []))) fs ≡ None = ap (λ k. fault_over warm (later a c (n + 1) k) fs) (sym (last_n-push 18 us (unit_at f))) ∙ rest in (
        sym is,
        (λ q. rule_joins a.before n (warm f.config) us f.config (carried_in f.config f.au) (sym (by_last n us f v) ∙ p.1 (eq-eqb (from_of a f.config) n (ap (from_of a) (sym is) ∙ q)))),
        walk_fine (n + 1) (us ++ unit_at f ∷ []) fs (All-tail (λ g. IsWellFormed g.config) f fs well) rest',
        p.2,
      )

  pub fine_walk : (n : ℕ) (us : List UnitValue) (fs : List Coded) → AreWell fs → LaterFine warm a c n us fs → fault_over warm (later a c n (last_n 18 us)) fs ≡ None
  fine_walk n us [] well h = refl
  fine_walk n us (f ∷ fs) well h =
      let v = All-head (λ g. IsWellFormed g.config) f fs well in
      let t : same c f.config ≡ true = same_equal c f.config (sym h.0) in
      let rest = fine_walk (n + 1) (us ++ unit_at f ∷ []) fs (All-tail (λ g. IsWellFormed g.config) f fs well) h.2 in
      or_both (fault (later a c n (last_n 18 us)) (warm f.config) f) _
      (fine_if (same c f.config) (from_of a f.config == n) (short_at f.config f.au) n _ t
      (λ q. by_last n us f v ∙ joins_rule a.before n (warm f.config) us f.config (carried_in f.config f.au) (h.1 (ap (from_of a) (sym h.0) ∙ eqb-true (from_of a f.config) n q))) h.3)
      (ap (λ k. fault_over warm (later a c (n + 1) k) fs) (last_n-push 18 us (unit_at f)) ∙ rest)

  -- The frame at which the piece begins may be joined, where it is a later one.
  abbrev pub JoinedIn : ℕ → List UnitValue → List Coded → Type 0
  JoinedIn n us fs = (m : ℕ) (x : Coded) → n + m ≡ from_of a c → slice_get fs m ≡ Some x → MayJoin warm a.before (us ++ own_units (take m fs)) x

  pub later_parts : (n : ℕ) (us : List UnitValue) (fs : List Coded) → LaterFine warm a c n us fs → AreOf c fs × JoinedIn n us fs × AreRead fs
  later_parts n us [] h = (All-nil (λ g. g.config ≡ c), (λ m x q e. absurd (let f : None ≡ Some x = e in cc)), All-nil (λ g. short_at g.config g.au ≡ None))
  later_parts n us (f ∷ fs) h =
      let rest = later_parts (n + 1) (us ++ unit_at f ∷ []) fs h.2 in
      (All-cons (λ g. g.config ≡ c) f fs h.0 rest.0, (λ m x q e. at m x q e rest.1), All-cons (λ g. short_at g.config g.au ≡ None) f fs h.3 rest.2)
    where
      at : (m : ℕ) (x : Coded) → n + m ≡ from_of a c → slice_get (f ∷ fs) m ≡ Some x → JoinedIn (n + 1) (us ++ unit_at f ∷ []) fs → MayJoin warm a.before (us ++ own_units (take m (f ∷ fs))) x
      at zero x q e rest =
          let s : Some f ≡ Some x = e in
          let is : f ≡ x = cc in
          let P : Coded → Type 0 = MayJoin warm a.before (us ++ []) in
          let Q : List UnitValue → Type 0 = λ xs. MayJoin warm a.before xs f in
          subst P is (subst Q (sym (append-nil us)) (h.1 (omega (arith, q))))
      at (suc m) x q e rest =
          let Q : List UnitValue → Type 0 = λ xs. MayJoin warm a.before xs x in
          subst Q (append_assoc us (unit_at f ∷ []) (own_units (take m fs))) (rest m x (omega (arith, q)) e)

  pub later_whole : (n : ℕ) (us : List UnitValue) (fs : List Coded) → AreOf c fs → JoinedIn n us fs → AreRead fs → LaterFine warm a c n us fs
  later_whole n us [] h j r = tt
  later_whole n us (f ∷ fs) h j r =
      let Q : List UnitValue → Type 0 = λ xs. MayJoin warm a.before xs f in (
        All-head (λ g. g.config ≡ c) f fs h,
        (λ q. subst Q (append-nil us) (j 0 f (omega (arith, q)) refl)),
        later_whole (n + 1) (us ++ unit_at f ∷ []) fs (All-tail (λ g. g.config ≡ c) f fs h)
            (λ m x q e. let R : List UnitValue → Type 0 = λ xs. MayJoin warm a.before xs x in subst R (sym (append_assoc us (unit_at f ∷ []) (own_units (take m fs)))) (j (suc m) x (omega (arith, q)) e))
            (All-tail (λ g. short_at g.config g.au ≡ None) f fs r),
        All-head (λ g. short_at g.config g.au ≡ None) f fs r,
      )

-- what the end answers behind later frames
pub end_later : (a : Asked) (c : UsacConfig) (n : ℕ) (kept : List UnitValue) (fs : List Coded) → end (run_over (later a c n kept) fs) ≡ piece_of a (Some c) (n + length fs)
end_later a c n kept [] = let e : n + 0 ≡ n = omega arith in ap (piece_of a (Some c)) (sym e)
end_later a c n kept (f ∷ fs) =
    let e : n + 1 + length fs ≡ n + length (f ∷ fs) = omega arith in
    end_later a c (n + 1) (last_n 18 (kept ++ unit_at f ∷ [])) fs ∙ ap (piece_of a (Some c)) e
