-- Each target carries exactly the units of the frames before it.
use Rattle.std.proofs.Common.{◌≡◌, ℕ, zero, suc, ◌+◌, ◌-◌, ◌<◌, ◌≤◌, Bool, true, List, [], ◌∷◌, length, map, take, drop, Option, Some, None, refl, sym, ap, subst, ◌∙◌, arith}
use Rattle.std.specs.Prelude.{slice_get, if◌then◌else◌}
use Rattle.std.specs.List.{AllByRecursion}
use Rattle.std.proofs.lemmas.List.{length-map, take-map, drop-map}
use Rattle.usac_cfg.specs.declared.usac_config.UsacConfig.{UsacConfig}
use Rattle.usac_frame.specs.declared.frame.Frame.{Frame}
use Rattle.usac_frame.specs.AccessUnit.{IsFrame, unit_in}
use Rattle.usac_frame.specs.Units.{UnitValue}
use Rattle.preroll.specs.Carried.{Carries}
use Rattle.latm.specs.declared.stream.Stream.{Stream}
use Rattle.latm.specs.Stream.{IsWellFormed, frames_of, config_in, au_in}
use Rattle.ipf_frame.specs.Laws.{FirstIndependent}
use Rattle.ipf_frame.specs.Slot.{new_slot}
use Rattle.ipf_frame.proofs.CarriedUnits as carried
use Rattle.stream_edit.specs.Laws.{unit_of_frame}
use Rattle.stream_edit.specs.Targets.{is_target}
use Rattle.stream_edit.proofs.EditedFrames.{frame_new, frames_are, in_at}
use Rattle.ipf_insert.specs.Inserting.{Settled, units_before, target_slot, stream_in}
use Rattle.ipf_insert.specs.Laws.{CarriesUnits, TargetsCarry}
use Rattle.ipf_insert.specs.Rules.{au_at}
use Rattle.ipf_insert.proofs.ChangedSlots.{target_here}
use Rattle.ipf_insert.proofs.Here.{at_there, au_there, config_there}
use Rattle.ipf_insert.proofs.Holding.{Holds, passed_all}
use Rattle.ipf_insert.proofs.Kept.{one_kept, independent}

abbrev Pair : Type 0
Pair = UsacConfig × List ℕ

-- the first of the units that are carried
first_there : (c : UsacConfig) (count n : ℕ) (aus : List (List ℕ)) → 1 ≤ count → n < length aus → (unit_in c (au_at aus n)).independent ≡ true → FirstIndependent c (take count (drop n aus))
first_there c zero n aus some lt e = absurd (omega (arith, some))
first_there c (suc count) n [] some lt e = absurd (omega (arith, lt))
first_there c (suc count) zero (u ∷ aus) some lt e = e
first_there c (suc count) (suc n) (u ∷ aus) some lt e = first_there c (suc count) n aus some (omega (arith, lt)) e

-- the units of frames of one configuration
units_of : (c : UsacConfig) (fs : List Pair) → AllByRecursion (λ f. c ≡ config_in f) fs → map unit_of_frame fs ≡ map (unit_in c) (map au_in fs)
units_of c [] same = refl
units_of c (f ∷ fs) same =
    let one : unit_of_frame f ≡ unit_in c (au_in f) = ap (λ (d : UsacConfig). unit_in d (au_in f)) (sym same.0) in
    ap (λ (u : UnitValue). u ∷ map unit_of_frame fs) one ∙ ap (λ (us : List UnitValue). unit_in c (au_in f) ∷ us) (units_of c fs same.1)

units_part : (c : UsacConfig) (fs : List Pair) (aus : List (List ℕ)) (count n : ℕ) → AllByRecursion (λ f. c ≡ config_in f) fs → aus ≡ map au_in fs → take count (drop n (map unit_of_frame fs)) ≡ map (unit_in c) (take count (drop n aus))
units_part c fs aus count n same is =
    ap (λ (us : List UnitValue). take count (drop n us)) (units_of c fs same ∙ ap (λ (xs : List (List ℕ)). map (unit_in c) xs) (sym is))
    ∙ ap (λ (us : List UnitValue). take count us) (drop-map (unit_in c) n aus)
    ∙ take-map (unit_in c) count (drop n aus)

module _ (s : Stream) (i : Settled) (targets : List ℕ) (h : Holds s i targets) (t : ℕ) (is : is_target targets t ≡ true) where
  below : t < length i.aus
  below = let k = one_kept i targets t h.kept is in k.below

  frame_there : (f : Pair) × (slice_get (frames_of s) t ≡ Some f)
  frame_there = at_there (frames_of s) t (omega (arith, below, ap (λ (xs : List (List ℕ)). length xs) h.aus, length-map (frames_of s) au_in))

  abbrev before : List (List ℕ)
  before = units_before i.count t i.aus

  abbrev made : List ℕ → List ℕ
  made au = new_slot i.config i.fade before au

  -- the target is a frame of the one configuration
  target_is : IsWellFormed s → slice_get (frames_of (stream_in (Some i) targets s)) t ≡ Some (i.config, made (au_in frame_there.0))
  target_is w =
      let f = frame_there.0 in
      ap (λ (fs : List Pair). slice_get fs t) (frames_are (target_slot i) targets 0 None s.elements w.elements)
      ∙ in_at (target_slot i) targets 0 t (frames_of s) f frame_there.1
      ∙ ap (λ (k : ℕ). Some (frame_new (target_slot i) targets k f)) (let k : 0 + t ≡ t = omega arith in k)
      ∙ ap (λ (b : Bool). let x : Pair = (config_in f, if b then made (au_in f) else au_in f) in Some x) is
      ∙ ap (λ (c : UsacConfig). let x : Pair = (c, made (au_in f)) in Some x) (sym (config_there i.config (frames_of s) t f h.same frame_there.1))

  carries_here : (g : Frame) × IsFrame i.config (made (au_in frame_there.0)) g × Carries i.config g i.fade (map (unit_in i.config) before)
  carries_here =
      let k = one_kept i targets t h.kept is in
      let au = au_in frame_there.0 in
      let at : au ≡ au_at i.aus t = au_there (frames_of s) t frame_there.0 frame_there.1 ∙ ap (λ (xs : List (List ℕ)). au_at xs t) (sym h.aus) in
      let first = first_there i.config i.count (t - i.count) i.aus h.listed.some (omega (arith, below)) (independent i t k.units) in
      carried.targets_carry i.config i.fade before au (made au) h.config h.listed.declared first (target_here s i targets h t au at is)

  carries : IsWellFormed s → CarriesUnits (slice_get (frames_of (stream_in (Some i) targets s)) t) i.fade (take i.count (drop (t - i.count) (map unit_of_frame (frames_of s))))
  carries w =
      let units = units_part i.config (frames_of s) i.aus i.count (t - i.count) h.same h.aus in
      let at_units : CarriesUnits (Some (i.config, made (au_in frame_there.0))) i.fade (take i.count (drop (t - i.count) (map unit_of_frame (frames_of s)))) =
      subst (λ (us : List UnitValue). CarriesUnits (Some (i.config, made (au_in frame_there.0))) i.fade us) (sym units) carries_here in
      subst (λ (o : Option Pair). CarriesUnits o i.fade (take i.count (drop (t - i.count) (map unit_of_frame (frames_of s))))) (sym (target_is w)) at_units

pub targets_carry : TargetsCarry
targets_carry s count fade targets t w e is =
    let p = passed_all s count fade targets w e in
    let i = p.shared in
    let there : CarriesUnits (slice_get (frames_of (stream_in (Some i) targets s)) t) i.fade (take i.count (drop (t - i.count) (map unit_of_frame (frames_of s)))) = carries s i targets p.holds t is w in
    let named : CarriesUnits (slice_get (frames_of (stream_in (Some i) targets s)) t) fade (take count (drop (t - count) (map unit_of_frame (frames_of s)))) =
    subst (λ (b : Bool). CarriesUnits (slice_get (frames_of (stream_in (Some i) targets s)) t) b (take count (drop (t - count) (map unit_of_frame (frames_of s))))) p.fade_is
    (subst (λ (n : ℕ). CarriesUnits (slice_get (frames_of (stream_in (Some i) targets s)) t) i.fade (take n (drop (t - n) (map unit_of_frame (frames_of s))))) p.count_is there) in
    subst (λ (o : Option Settled). CarriesUnits (slice_get (frames_of (stream_in o targets s)) t) fade (take count (drop (t - count) (map unit_of_frame (frames_of s))))) (sym p.found) named
