-- The stream behind an insertion has the units of the stream before it, and decodes alike.
use Rattle.std.proofs.Common.{◌≡◌, ℕ, ◌+◌, Bool, true, false, List, [], ◌∷◌, ◌++◌, length, map, take, drop, Option, Some, None, refl, sym, ap, ◌∙◌, arith}
use Rattle.std.specs.Prelude.{slice_get}
use Rattle.std.specs.Option.{option_map}
use Rattle.std.proofs.lemmas.List.{length-map}
use Rattle.usac_cfg.specs.declared.usac_config.UsacConfig.{UsacConfig}
use Rattle.usac_frame.specs.Units.{UnitValue}
use Rattle.preroll.specs.Carrying.{Shown, units_in}
use Rattle.latm.specs.Stream.{frames_of}
use Rattle.plans.specs.Coded.{Coded, coded_shown}
use Rattle.plans.specs.StreamUnits.{units_of, head_of}
use Rattle.core_iface.specs.Decoding.{Definitions, out, after}
use Rattle.stream_edit.specs.Targets.{is_target}
use Rattle.ipf_insert.specs.Inserting.{inserted}
use Rattle.stream_edit.specs.Laws.{unit_of_frame}
use Rattle.inserted_plans.specs.Insertion.{Insertion, IsAllowed, coded, old_frames, new_frames}
use Rattle.inserted_plans.specs.Laws.{DecodeAlike, DecodesAlike}
use Rattle.inserted_plans.proofs.Inserted.{keeps, as_many, stays, target_late}
use Rattle.inserted_plans.proofs.Lists.{get_mapped, some_same}

-- the units of the frames themselves
abbrev pub own_units : List Shown → List UnitValue
own_units fs = map (λ g. g.unit) fs

pub own_units_are : (fs : List (UsacConfig × List ℕ)) → own_units (map coded_shown (map coded fs)) ≡ map unit_of_frame fs
own_units_are [] = refl
own_units_are (f ∷ fs) = ap (λ (us : List UnitValue). unit_of_frame f ∷ us) (own_units_are fs)

-- ---- of lists of what frames show

module _ (d : Definitions) where
  alike : (old new : List Shown) → length new ≡ length old → own_units new ≡ own_units old → slice_get new 0 ≡ slice_get old 0 → DecodeAlike d old new
  alike [] [] many us first = record { many = many; units = refl; head = refl; alone = refl; left = λ j. refl }
  alike [] (g ∷ gs) many us first = absurd (let never : Some g ≡ None = first in cc)
  alike (f ∷ fs) [] many us first = absurd (let never : None ≡ Some f = first in cc)
  alike (f ∷ fs) (g ∷ gs) many us first =
      let is : g ≡ f = some_same g f first in
      let carried : units_in g.carried ≡ units_in f.carried = ap (λ (x : Shown). units_in x.carried) is in
      let units : units_of (g ∷ gs) ≡ units_of (f ∷ fs) = ap (λ (ks : List UnitValue). ks ++ own_units (g ∷ gs)) carried ∙ ap (λ (xs : List UnitValue). units_in f.carried ++ xs) us in
      let head : head_of (g ∷ gs) ≡ head_of (f ∷ fs) = ap (λ (xs : List UnitValue). length xs) carried in
      let config : g.config ≡ f.config = ap (λ (x : Shown). x.config) is in
      record {
        many = many;
        units = units;
        head = head;
        alone =
            ap (λ (n : ℕ). drop n (out d g.config (d.init g.config) (units_of (g ∷ gs)))) head
            ∙ ap (λ (xs : List UnitValue). drop (head_of (f ∷ fs)) (out d g.config (d.init g.config) xs)) units
            ∙ ap (λ (c : UsacConfig). drop (head_of (f ∷ fs)) (out d c (d.init c) (units_of (f ∷ fs)))) config;
        left = λ j.
            ap (λ (n : ℕ). d.drain g.config (after d g.config (d.init g.config) (take (n + j) (units_of (g ∷ gs))))) head
            ∙ ap (λ (xs : List UnitValue). d.drain g.config (after d g.config (d.init g.config) (take (head_of (f ∷ fs) + j) xs))) units
            ∙ ap (λ (c : UsacConfig). d.drain c (after d c (d.init c) (take (head_of (f ∷ fs) + j) (units_of (f ∷ fs))))) config;
      }

-- ---- of an insertion

-- the first frame is no target
pub first_none : (i : Insertion) → IsAllowed i → is_target i.targets 0 ≡ false
first_none i w = by_target (is_target i.targets 0) refl
  where
    by_target : (b : Bool) → is_target i.targets 0 ≡ b → is_target i.targets 0 ≡ false
    by_target true is = absurd (let p = target_late i w 0 is in omega (arith, p.0, p.1))
    by_target false is = is

pub first_stays : (i : Insertion) → IsAllowed i → slice_get (new_frames i) 0 ≡ slice_get (old_frames i) 0
first_stays i w = stays i w 0 (first_none i w)

pub same_units : (i : Insertion) → IsAllowed i → own_units (map coded_shown (new_frames i)) ≡ own_units (map coded_shown (old_frames i))
same_units i w =
    own_units_are (frames_of (inserted i.stream i.count i.fade i.targets))
    ∙ (let k = keeps i w in k.units)
    ∙ sym (own_units_are (frames_of i.stream))

pub shown_many : (i : Insertion) → IsAllowed i → length (map coded_shown (new_frames i)) ≡ length (map coded_shown (old_frames i))
shown_many i w = length-map (new_frames i) coded_shown ∙ as_many i w ∙ sym (length-map (old_frames i) coded_shown)

pub streams_decode_alike : (d : Definitions) → DecodesAlike d
streams_decode_alike d i w =
    alike d (map coded_shown (old_frames i)) (map coded_shown (new_frames i)) (shown_many i w) (same_units i w)
    (get_mapped coded_shown (new_frames i) 0 ∙ ap (λ (o : Option Coded). option_map coded_shown o) (first_stays i w) ∙ sym (get_mapped coded_shown (old_frames i) 0))
