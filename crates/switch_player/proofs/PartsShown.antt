-- What frames and parts of streams show, and their splices and segments.
use Rattle.std.proofs.Common.{◌≡◌, ℕ, zero, suc, ◌-◌, Bool, true, false, List, [], ◌∷◌, ◌++◌, take, drop, map, Option, Some, None, Ok, refl, ap, sym, subst, ◌∙◌}
use Rattle.std.specs.Prelude.{slice_get, slice_range, if◌then◌else◌}
use Rattle.std.proofs.lemmas.List.{length-map, take-map, drop-map, map-append}
use Rattle.usac_cfg.specs.UsacConfig.{IsWellFormed}
use Rattle.usac_cfg.specs.Same.{same}
use Rattle.usac_frame.specs.AccessUnit.{unit_in, unit_where}
use Rattle.usac_frame.specs.FrameFound.{frame_of_is}
use Rattle.usac_frame.specs.Units.{UnitValue, unit_of}
use Rattle.preroll.specs.declared.fault.CarryFault.TheVariants.{FirstDependent}
use Rattle.preroll.specs.Carried.{starts_independent}
use Rattle.preroll.specs.Carrying.{Carried, Shown}
use Rattle.preroll.proofs.Judging.{carried_is, carried_in_frame}
use Rattle.core_iface.specs.Laws.{BeginsIndependent}
use Rattle.plans.specs.Plans.{Piece, splice, whole}
use Rattle.plans.specs.Segments.{before_runs, segments, own}
use Rattle.plans.specs.Coded.{Coded, coded_shown, CarriesUnits}
use Rattle.plans.specs.Parts.{Part, part_frames, spliced, whole_part, part_shown}
use Rattle.plans.specs.OwnPlan.{before_coded, coded_segments, own_plan}

pub get_shown : (fs : List Coded) (i : ℕ) (x : Coded) → slice_get fs i ≡ Some x → slice_get (map coded_shown fs) i ≡ Some (coded_shown x)
get_shown [] i x e = absurd (let never : None ≡ Some x = e in cc)
get_shown (f ∷ fs) zero x e = let q : f ≡ x = cc in ap (λ (g : Coded). let o : Option Shown = Some (coded_shown g) in o) q
get_shown (f ∷ fs) (suc i) x e = get_shown fs i x e

range_shown : (fs : List Coded) (from to : ℕ) → slice_range (map coded_shown fs) from to ≡ map coded_shown (slice_range fs from to)
range_shown fs from to = ap (take (to - from)) (drop-map coded_shown from fs) ∙ take-map coded_shown (to - from) (drop from fs)

-- ---- a frame that carries units

pub carried_shown : (f : Coded) (k : Carried) → IsWellFormed f.config → CarriesUnits f k → (coded_shown f).carried ≡ Ok k
carried_shown f k w h = carried_in_frame f.config f.au h.frame h.is ∙ carried_is.found f.config h.frame (Ok k) w h.carries

pub not_false : (b : Bool) → (b ≡ false → ⊥) → b ≡ true
not_false true h = refl
not_false false h = absurd (h refl)

-- the first of what it carries, or else its own unit, is independent
pub begins_shown : (f : Coded) (k : Carried) → CarriesUnits f k → BeginsIndependent (k.units ++ (coded_shown f).unit ∷ [])
begins_shown f k h =
    let c = f.config in
    let p = h.carries.carried.0 in
    let first : starts_independent c h.frame p.units ≡ true = not_false _ (λ e. h.carries.keeps FirstDependent (p, h.carries.carried.1, e)) in
    let unit : (coded_shown f).unit ≡ unit_of c h.frame = ap (unit_where c) (frame_of_is.found c f.au h.frame h.is) in
    subst (λ (us : List UnitValue). BeginsIndependent (us ++ (coded_shown f).unit ∷ [])) (sym h.carries.carried.2.1) (by_units p.units first (ap (λ (u : UnitValue). u.independent) unit))
  where
    by_units : (us : List (List ℕ)) → starts_independent f.config h.frame us ≡ true → (coded_shown f).unit.independent ≡ h.frame.independent → BeginsIndependent (map (unit_in f.config) us ++ (coded_shown f).unit ∷ [])
    by_units [] e u = u ∙ e
    by_units (x ∷ us) e u = e

-- ---- splices and segments

pub splice_shown : (ps : List Part) → splice (map part_shown ps) ≡ map coded_shown (spliced ps)
splice_shown [] = refl
splice_shown (p ∷ ps) =
    ap (λ (fs : List Shown). fs ++ splice (map part_shown ps)) (range_shown p.stream p.from p.to)
    ∙ (ap (λ (fs : List Shown). map coded_shown (part_frames p) ++ fs) (splice_shown ps) ∙ sym (map-append coded_shown (part_frames p) (spliced ps)))

runs_shown : (f : Coded) (rs : List (List Coded)) → map (map coded_shown) (before_coded f rs) ≡ before_runs (coded_shown f) (map (map coded_shown) rs)
runs_shown f [] = refl
runs_shown f ([] ∷ rs) = refl
runs_shown f ((g ∷ gs) ∷ rs) = by_test (same f.config g.config)
  where
    by_test : (b : Bool) → map (map coded_shown) (if b then (f ∷ g ∷ gs) ∷ rs else (f ∷ []) ∷ (g ∷ gs) ∷ rs) ≡ (if b then (coded_shown f ∷ coded_shown g ∷ map coded_shown gs) ∷ map (map coded_shown) rs else (coded_shown f ∷ []) ∷ (coded_shown g ∷ map coded_shown gs) ∷ map (map coded_shown) rs)
    by_test true = refl
    by_test false = refl

segments_shown : (fs : List Coded) → map (map coded_shown) (coded_segments fs) ≡ segments (map coded_shown fs)
segments_shown [] = refl
segments_shown (f ∷ fs) = runs_shown f (coded_segments fs) ∙ ap (before_runs (coded_shown f)) (segments_shown fs)

wholes_shown : (rs : List (List Coded)) → map part_shown (map whole_part rs) ≡ map whole (map (map coded_shown) rs)
wholes_shown [] = refl
wholes_shown (r ∷ rs) =
    let first : part_shown (whole_part r) ≡ whole (map coded_shown r) = ap (λ (n : ℕ). let p : Piece = record { stream = map coded_shown r; from = 0; to = n } in p) (sym (length-map r coded_shown)) in
    ap (λ (p : Piece). p ∷ map part_shown (map whole_part rs)) first ∙ ap (λ (ps : List Piece). whole (map coded_shown r) ∷ ps) (wholes_shown rs)

pub own_shown : (fs : List Coded) → map part_shown (own_plan fs) ≡ own (map coded_shown fs)
own_shown fs = wholes_shown (coded_segments fs) ∙ ap (map whole) (segments_shown fs)
