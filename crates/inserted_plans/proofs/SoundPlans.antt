-- A sound plan stays sound behind insertions, and its cut stays the same.
use Rattle.std.proofs.Common.{◌≡◌, ℕ, ◌+◌, Bool, true, false, List, [], ◌∷◌, length, map, take, Option, Some, None, Ok, Err, refl, sym, ap, subst, ◌∙◌, arith, ◌⊎◌, inl, inr}
use Rattle.std.specs.Prelude.{slice_get}
use Rattle.std.specs.Option.{option_map}
use Rattle.std.specs.List.{AllByRecursion}
use Rattle.usac_cfg.specs.declared.usac_config.UsacConfig.{UsacConfig}
use Rattle.usac_cfg.specs.UsacConfig.{IsWellFormed as IsConfig}
use Rattle.usac_frame.specs.Units.{UnitValue}
use Rattle.preroll.specs.declared.fault.CarryFault.TheVariants.{NotImmediate}
use Rattle.preroll.specs.Carrying.{Carried}
use Rattle.plans.specs.Coded.{Coded, coded_shown, CarriesUnits}
use Rattle.plans.specs.Level.{AreLevel}
use Rattle.plans.specs.WholeStream.{IsWholeStream, stream_config}
use Rattle.plans.specs.StreamUnits.{units_of, head_of}
use Rattle.plans.specs.Parts.{IsPart}
use Rattle.plans.specs.SoundPlan.{BeginsWarm, AreJoined, IsSoundPlan}
use Rattle.core_iface.specs.Decoding.{Definitions}
use Rattle.switch_player.proofs.PartsShown.{carried_shown}
use Rattle.stream_edit.specs.Targets.{is_target}
use Rattle.inserted_plans.specs.Insertion.{Insertion, IsAllowed, old_frames, new_frames}
use Rattle.inserted_plans.specs.Changes.{Change, IsChange, IsInto, BeginsNoFade, stream_behind, part_behind, old_plan, new_plan, is_fading}
use Rattle.inserted_plans.specs.Laws.{SoundPlansStay}
use Rattle.inserted_plans.proofs.Inserted.{as_many, stays, config_fits, config_before, target_bare}
use Rattle.inserted_plans.proofs.Alike.{first_stays}
use Rattle.inserted_plans.proofs.Beginnings.{and_false, gives_alike}
use Rattle.inserted_plans.proofs.Cuts.{cuts_alike}
use Rattle.inserted_plans.proofs.Whole.{whole_behind}

-- ---- the stream of a part

abbrev config_at_first : List Coded → Option UsacConfig
config_at_first fs = option_map (λ (f : Coded). f.config) (slice_get fs 0)

config_first : (fs : List Coded) → stream_config fs ≡ config_at_first fs
config_first [] = refl
config_first (f ∷ fs) = refl

same_config : (fs : List Coded) (o : Option Insertion) → IsInto fs o → stream_config (stream_behind fs o) ≡ stream_config fs
same_config fs None into = refl
same_config fs (Some i) into =
    config_first (new_frames i) ∙ ap (λ (x : Option Coded). option_map (λ (f : Coded). f.config) x) (first_stays i into.0) ∙ sym (config_first (old_frames i)) ∙ ap stream_config (sym into.1)

same_length : (fs : List Coded) (o : Option Insertion) → IsInto fs o → length (stream_behind fs o) ≡ length fs
same_length fs None into = refl
same_length fs (Some i) into = as_many i into.0 ∙ ap (λ (xs : List Coded). length xs) (sym into.1)

whole : (fs : List Coded) (o : Option Insertion) → IsInto fs o → IsWholeStream fs → IsWholeStream (stream_behind fs o)
whole fs None into h = h
whole fs (Some i) into h = whole_behind i into.0 (subst IsWholeStream into.1 h)

-- ---- a frame that carries units is no target

carrying : (i : Insertion) → IsAllowed i → (at : ℕ) (f : Coded) (k : Carried) → slice_get (old_frames i) at ≡ Some f → CarriesUnits f k → is_target i.targets at ≡ false
carrying i w at f k e carries = by_target (is_target i.targets at) refl
  where
    by_target : (b : Bool) → is_target i.targets at ≡ b → is_target i.targets at ≡ false
    by_target true is =
        let fine : IsConfig f.config = subst IsConfig (sym (config_before i w at f e)) (config_fits i w) in
        absurd (let never : Err NotImmediate ≡ Ok k = sym (target_bare i w at f is e) ∙ carried_shown f k fine carries in cc)
    by_target false is = is

quiet : (fs : List Coded) (o : Option Insertion) → IsInto fs o → (at : ℕ) (f : Coded) (k : Carried) → slice_get fs at ≡ Some f → CarriesUnits f k → is_fading o at ≡ false
quiet fs None into at f k e carries = refl
quiet fs (Some i) into at f k e carries =
    and_false i.fade (is_target i.targets at) (carrying i into.0 at f k (ap (λ (xs : List Coded). slice_get xs at) (sym into.1) ∙ e) carries)

frame_stays : (fs : List Coded) (o : Option Insertion) → IsInto fs o → (at : ℕ) (f : Coded) (k : Carried) → slice_get fs at ≡ Some f → CarriesUnits f k → slice_get (stream_behind fs o) at ≡ Some f
frame_stays fs None into at f k e carries = e
frame_stays fs (Some i) into at f k e carries =
    let there : slice_get (old_frames i) at ≡ Some f = ap (λ (xs : List Coded). slice_get xs at) (sym into.1) ∙ e in
    stays i into.0 at (carrying i into.0 at f k there carries) ∙ there

-- ---- parts

module _ (d : Definitions) where
  part_stays : (c : Change) → IsChange c → IsPart c.part → IsPart (part_behind c)
  part_stays c h p = record {
    stream = whole c.part.stream c.insertion h.into p.stream;
    some = p.some;
    within = omega (arith, p.within, same_length c.part.stream c.insertion h.into);
  }

  warm_stays : (c : Change) → IsChange c → BeginsWarm d.warm c.part → BeginsWarm d.warm (part_behind c)
  warm_stays c h b =
      let alike = gives_alike d c.part.stream c.insertion h.into in
      record {
        frame = b.frame;
        carried = b.carried;
        first = frame_stays c.part.stream c.insertion h.into c.part.from b.frame b.carried b.first b.carries;
        carries = b.carries;
        enough = b.enough;
        faithful = (
          b.faithful.0,
          ap (λ (n : ℕ). take (n + c.part.from) (units_of (map coded_shown (part_behind c).stream))) alike.head
              ∙ ap (λ (us : List UnitValue). take (head_of (map coded_shown c.part.stream) + c.part.from) us) alike.units
              ∙ b.faithful.1,
        );
      }

  joined_stay : (before : Option UsacConfig) (cs : List Change) → AllByRecursion IsChange cs → AreJoined d.warm before (old_plan cs) → AreJoined d.warm before (new_plan cs)
  joined_stay before [] h j = tt
  joined_stay before (c ∷ cs) h j =
      let same : stream_config (part_behind c).stream ≡ stream_config c.part.stream = same_config c.part.stream c.insertion h.0.into in (
        part_stays c h.0 j.0,
        subst (λ (x : Option UsacConfig). AreLevel before x) (sym same) j.1,
        warm_stays c h.0 j.2,
        subst (λ (x : Option UsacConfig). AreJoined d.warm x (new_plan cs)) (sym same) (joined_stay (stream_config c.part.stream) cs h.1 j.3),
      )

  start_stays : (c : Change) → IsChange c → (c.part.from ≡ 0) ⊎ BeginsWarm d.warm c.part → (c.part.from ≡ 0) ⊎ BeginsWarm d.warm (part_behind c)
  start_stays c h (inl e) = inl e
  start_stays c h (inr b) = inr (warm_stays c h b)

  sound_stays : (cs : List Change) → AllByRecursion IsChange cs → IsSoundPlan d.warm (old_plan cs) → IsSoundPlan d.warm (new_plan cs)
  sound_stays [] h s = tt
  sound_stays (c ∷ cs) h s =
      let same : stream_config (part_behind c).stream ≡ stream_config c.part.stream = same_config c.part.stream c.insertion h.0.into in (
        part_stays c h.0 s.0,
        start_stays c h.0 s.1,
        subst (λ (x : Option UsacConfig). AreJoined d.warm x (new_plan cs)) (sym same) (joined_stay (stream_config c.part.stream) cs h.1 s.2),
      )

  joined_quiet : (before : Option UsacConfig) (cs : List Change) → AllByRecursion IsChange cs → AreJoined d.warm before (old_plan cs) → AllByRecursion (λ c. is_fading c.insertion c.part.from ≡ false) cs
  joined_quiet before [] h j = tt
  joined_quiet before (c ∷ cs) h j =
      let b = j.2 in
      (quiet c.part.stream c.insertion h.0.into c.part.from b.frame b.carried b.first b.carries, joined_quiet (stream_config c.part.stream) cs h.1 j.3)

  sound_quiet : (cs : List Change) → AllByRecursion IsChange cs → IsSoundPlan d.warm (old_plan cs) → BeginsNoFade cs
  sound_quiet [] h s = tt
  sound_quiet (c ∷ cs) h s = joined_quiet (stream_config c.part.stream) cs h.1 s.2

  pub sound_plans_stay : SoundPlansStay d
  sound_plans_stay cs h s = record { sound = sound_stays cs h s; cut = cuts_alike d cs h (sound_quiet cs h s) }
