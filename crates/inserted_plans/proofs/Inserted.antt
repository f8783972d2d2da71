-- The frames behind an insertion that no rule refuses, by their number.
use Rattle.std.proofs.Common.{◌≡◌, ℕ, zero, suc, ◌+◌, ◌-◌, ◌<◌, ◌≤◌, Bool, true, false, List, [], ◌∷◌, length, map, take, drop, Option, Some, None, Err, refl, sym, ap, subst, ◌∙◌, arith}
use Rattle.std.specs.Prelude.{slice_get, ◌==◌, if◌then◌else◌}
use Rattle.std.specs.List.{AllByRecursion}
use Rattle.std.specs.Option.{option_map, option_map_or}
use Rattle.std.proofs.lemmas.List.{length-map}
use Rattle.std.proofs.lemmas.Option.{slice_get_within}
use Rattle.usac_cfg.specs.declared.usac_config.UsacConfig.{UsacConfig}
use Rattle.usac_cfg.specs.UsacConfig.{IsWellFormed as IsConfig, declares_preroll}
use Rattle.usac_frame.specs.declared.part.ExtPart.{ExtPart}
use Rattle.usac_frame.specs.declared.frame.Frame.{Frame}
use Rattle.usac_frame.specs.Units.{payload_length, part_bytes, first_payload, is_whole}
use Rattle.preroll.specs.declared.fault.CarryFault.TheVariants.{NotImmediate, Split}
use Rattle.preroll.specs.Carrying.{Carried, carried_in, carried_of, opened}
use Rattle.preroll.specs.Payload.{preroll_of, fault_of}
use Rattle.preroll.proofs.Judging.{carried_in_frame}
use Rattle.latm.specs.Stream.{frames_of, config_in, au_in}
use Rattle.plans.specs.Coded.{Coded, coded_shown}
use Rattle.plans.specs.Coded as plans
use Rattle.ipf_frame.specs.Slot.{IsOpen}
use Rattle.stream_edit.specs.Targets.{is_target}
use Rattle.ipf_insert.specs.Inserting.{Settled, target_slot, stream_in, inserted}
use Rattle.stream_edit.specs.Laws.{unit_of_frame, KeepsFrames}
use Rattle.ipf_insert.specs.Laws as inserting
use Rattle.ipf_insert.specs.Rules.{au_at}
use Rattle.ipf_insert.proofs.CarriedFrames.{targets_carry}
use Rattle.stream_edit.proofs.EditedFrames.{frames_in, frames_are, in_length}
use Rattle.ipf_insert.proofs.Here.{frame_at, au_there, config_there}
use Rattle.ipf_insert.proofs.Holding.{Passed, passed_all}
use Rattle.ipf_insert.proofs.Kept.{one_kept, late, open_frame}
use Rattle.ipf_insert.proofs.KeptFrames.{units_stay}
use Rattle.inserted_plans.specs.Insertion.{Insertion, IsAllowed, coded, old_frames, new_frames}
use Rattle.inserted_plans.proofs.Lists.{there, get_mapped, some_same}

abbrev Pair : Type 0
Pair = UsacConfig × List ℕ

-- ---- of lists of frames

kept_from : (make : ℕ → List ℕ → List ℕ) (targets : List ℕ) (first n : ℕ) (fs : List Pair) → is_target targets (first + n) ≡ false → slice_get (frames_in make targets first fs) n ≡ slice_get fs n
kept_from make targets first n [] out = refl
kept_from make targets first zero (f ∷ fs) out =
    let here : is_target targets first ≡ false = ap (is_target targets) (let q : first ≡ first + 0 = omega arith in q) ∙ out in
    ap (λ (b : Bool). let x : Pair = (config_in f, if b then make first (au_in f) else au_in f) in Some x) here
kept_from make targets first (suc n) (f ∷ fs) out = kept_from make targets (suc first) n fs (ap (is_target targets) (let q : suc first + n ≡ first + suc n = omega arith in q) ∙ out)

uncoded : (fs : List Pair) (t : ℕ) (f : Coded) → slice_get (map coded fs) t ≡ Some f → (g : Pair) × (slice_get fs t ≡ Some g) × (f ≡ coded g)
uncoded [] t f e = absurd (let never : None ≡ Some f = e in cc)
uncoded (g ∷ fs) zero f e = (g, refl, sym (some_same (coded g) f e))
uncoded (g ∷ fs) (suc t) f e = uncoded fs t f e

-- a frame of which part 0 is absent carries nothing
none_carried : (c : UsacConfig) (f : Frame) → IsOpen f → carried_of c f ≡ Err NotImmediate
unfolding carried_of
none_carried c f open_there = by_length (payload_length c f) (by_declared (declares_preroll c))
  where
    by_declared : (b : Bool) → (if b then option_map_or part_bytes (slice_get f.leading 0) 0 else 0) ≡ 0
    by_declared true = ap (λ (o : Option ExtPart). option_map_or part_bytes o 0) open_there
    by_declared false = refl

    by_length : (n : ℕ) → n ≡ 0 → (if n == 0 then Err NotImmediate else (if is_whole f then opened c f (preroll_of (first_payload f)) (fault_of (first_payload f)) else Err Split)) ≡ Err NotImmediate
    by_length zero e = refl
    by_length (suc n) e = absurd (omega (arith, e))

-- ---- of an insertion

module _ (i : Insertion) (w : IsAllowed i) where
  pub passed : Passed i.stream i.count i.fade i.targets
  passed = passed_all i.stream i.count i.fade i.targets w.stream w.rules

  abbrev old : List Pair
  old = frames_of i.stream

  abbrev new : List Pair
  new = frames_of (inserted i.stream i.count i.fade i.targets)

  frames_new : new ≡ frames_in (target_slot passed.shared) i.targets 0 old
  frames_new =
      ap (λ (o : Option Settled). frames_of (stream_in o i.targets i.stream)) passed.found
      ∙ frames_are (target_slot passed.shared) i.targets 0 None i.stream.elements w.stream.elements

  pub keeps : KeepsFrames i.stream (inserted i.stream i.count i.fade i.targets)
  keeps = units_stay i.stream i.count i.fade i.targets w.stream w.rules

  pub as_many : length (new_frames i) ≡ length (old_frames i)
  as_many = length-map new coded ∙ ap (λ (fs : List Pair). length fs) frames_new ∙ in_length (target_slot passed.shared) i.targets 0 old ∙ sym (length-map old coded)

  -- a frame that is no target stays
  pub stays : (t : ℕ) → is_target i.targets t ≡ false → slice_get (new_frames i) t ≡ slice_get (old_frames i) t
  stays t out =
      get_mapped coded new t
      ∙ ap (λ (o : Option Pair). option_map coded o) (ap (λ (fs : List Pair). slice_get fs t) frames_new ∙ kept_from (target_slot passed.shared) i.targets 0 t old (ap (is_target i.targets) (let q : 0 + t ≡ t = omega arith in q) ∙ out))
      ∙ sym (get_mapped coded old t)

  -- a target has as many frames before it as are carried, and one at least
  pub target_late : (t : ℕ) → is_target i.targets t ≡ true → (1 ≤ i.count) × (i.count ≤ t)
  target_late t is =
      let k = one_kept passed.shared i.targets t passed.holds.kept is in
      (omega (arith, passed.holds.listed.some, passed.count_is), omega (arith, late passed.shared t k.units, passed.count_is))

  pub target_below : (t : ℕ) → is_target i.targets t ≡ true → t < length (old_frames i)
  target_below t is =
      let k = one_kept passed.shared i.targets t passed.holds.kept is in
      omega (arith, k.below, ap (λ (xs : List (List ℕ)). length xs) passed.holds.aus, length-map old au_in, length-map old coded)

  -- the frames have one configuration, which is well formed
  abbrev pub config : UsacConfig
  config = passed.shared.config

  pub config_fits : IsConfig config
  config_fits = passed.holds.config

  pub config_before : (t : ℕ) (f : Coded) → slice_get (old_frames i) t ≡ Some f → f.config ≡ config
  config_before t f e =
      let g = uncoded old t f e in
      ap (λ (x : Coded). x.config) g.2 ∙ sym (config_there config old t g.0 passed.holds.same g.1)

  pub config_behind : (t : ℕ) (f : Coded) → slice_get (new_frames i) t ≡ Some f → f.config ≡ config
  config_behind t f e =
      let g = uncoded new t f e in
      let many : t < length old = omega (arith, slice_get_within (new_frames i) t f e, as_many, length-map old coded) in
      let o = there old t many in
      let same : Some (config_in g.0) ≡ Some (config_in o.0) =
      sym (get_mapped config_in new t ∙ ap (λ (x : Option Pair). option_map config_in x) g.1) ∙ ap (λ (cs : List UsacConfig). slice_get cs t) keeps.configs ∙ get_mapped config_in old t ∙ ap (λ (x : Option Pair). option_map config_in x) o.1 in
      ap (λ (x : Coded). x.config) g.2 ∙ some_same (config_in g.0) (config_in o.0) same ∙ sym (config_there config old t o.0 passed.holds.same o.1)

  -- a target had no preroll
  pub target_bare : (t : ℕ) (f : Coded) → is_target i.targets t ≡ true → slice_get (old_frames i) t ≡ Some f → (coded_shown f).carried ≡ Err NotImmediate
  target_bare t f is e =
      let g = uncoded old t f e in
      let k = one_kept passed.shared i.targets t passed.holds.kept is in
      let x = frame_at config passed.shared.aus t passed.holds.frames k.below in
      let au : au_at passed.shared.aus t ≡ f.au = ap (λ (aus : List (List ℕ)). au_at aus t) passed.holds.aus ∙ sym (au_there old t g.0 g.1) ∙ sym (ap (λ (y : Coded). y.au) g.2) in
      ap (λ (c : UsacConfig). carried_in c f.au) (config_before t f e)
      ∙ ap (carried_in config) (sym au)
      ∙ carried_in_frame config (au_at passed.shared.aus t) x.0 x.1
      ∙ none_carried config x.0 (open_frame passed.shared t x.0 k.frame x.1)

  -- and carries the units of the frames before it behind the insertion
  pub target_carries : (t : ℕ) (f : Coded) → is_target i.targets t ≡ true → slice_get (new_frames i) t ≡ Some f
      → plans.CarriesUnits f (record { fade = i.fade; units = take i.count (drop (t - i.count) (map unit_of_frame old)) })
  target_carries t f is e =
      let g = uncoded new t f e in
      let units = take i.count (drop (t - i.count) (map unit_of_frame old)) in
      let k : Carried = record { fade = i.fade; units = units } in
      let carries : inserting.CarriesUnits (slice_get new t) i.fade units = targets_carry i.stream i.count i.fade i.targets t w.stream w.rules is in
      let here : inserting.CarriesUnits (Some g.0) i.fade units = subst (λ (o : Option Pair). inserting.CarriesUnits o i.fade units) g.1 carries in
      subst (λ (y : Coded). plans.CarriesUnits y k) (sym g.2) (record { frame = here.0; is = here.1; carries = here.2 })
