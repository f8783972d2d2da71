-- A target is a sound start of a whole stream behind an insertion.
use Rattle.std.proofs.Common.{◌≡◌, ℕ, ◌+◌, ◌-◌, ◌<◌, ◌≤◌, List, [], ◌∷◌, ◌++◌, length, map, take, drop, Some, None, refl, sym, ap, ◌∙◌, arith, inr}
use Rattle.std.specs.Prelude.{slice_get}
use Rattle.std.proofs.lemmas.List.{length-map, length-take-le, length-drop, append_assoc}
use Rattle.std.proofs.Math.Seq.{take-add, take-append-add}
use Rattle.usac_cfg.specs.declared.usac_config.UsacConfig.{UsacConfig}
use Rattle.usac_frame.specs.Units.{UnitValue}
use Rattle.preroll.specs.Carrying.{Carried, Shown, units_in}
use Rattle.latm.specs.Stream.{frames_of}
use Rattle.plans.specs.Coded.{Coded, coded_shown}
use Rattle.plans.specs.WholeStream.{IsWholeStream, stream_config}
use Rattle.plans.specs.StreamUnits.{units_of, head_of, IsFaithful}
use Rattle.plans.specs.Parts.{IsPart}
use Rattle.plans.specs.SoundPlan.{BeginsWarm}
use Rattle.ipf_insert.specs.Inserting.{inserted}
use Rattle.stream_edit.specs.Laws.{unit_of_frame}
use Rattle.inserted_plans.specs.Insertion.{Insertion, IsAllowed, coded, old_frames, new_frames}
use Rattle.inserted_plans.specs.Laws.{IsWarmTarget, new_part, TargetsBeginWarm}
use Rattle.inserted_plans.proofs.Lists.{there, some_same}
use Rattle.inserted_plans.proofs.Inserted.{keeps, as_many, target_late, config, config_behind, target_carries}
use Rattle.inserted_plans.proofs.Alike.{own_units, own_units_are}
use Rattle.inserted_plans.proofs.Whole.{whole_behind}

-- ---- units of a stream before one of its frames

abbrev first_units : List Shown → List UnitValue
first_units [] = []
first_units (f ∷ fs) = units_in f.carried

units_before : (fs : List Shown) (t : ℕ) → take (head_of fs + t) (units_of fs) ≡ first_units fs ++ take t (own_units fs)
units_before [] t = let none : List UnitValue = [] in ap (λ (k : ℕ). take k none) (let q : 0 + t ≡ t = omega arith in q)
units_before (f ∷ fs) t = take-append-add (units_in f.carried) (own_units (f ∷ fs)) t

part_before : (us : List UnitValue) (t count : ℕ) → count ≤ t → take t us ≡ take (t - count) us ++ take count (drop (t - count) us)
part_before us t count le = ap (λ (n : ℕ). take n us) (let q : t ≡ (t - count) + count = omega (arith, le) in q) ∙ take-add (t - count) count us

-- the configuration of a stream is that of its first frame
first_config : (fs : List Coded) (c : UsacConfig) → stream_config fs ≡ Some c → (f : Coded) × (slice_get fs 0 ≡ Some f) × (f.config ≡ c)
first_config [] c e = absurd (let never : None ≡ Some c = e in cc)
first_config (f ∷ fs) c e = (f, refl, some_same f.config c e)

-- ---- a target

module _ (warm : UsacConfig → ℕ) (i : Insertion) (w : IsAllowed i) (t to : ℕ) (is : IsWarmTarget warm i t) (lt : t < to) (within : to ≤ length (new_frames i)) where
  abbrev own : List UnitValue
  own = map unit_of_frame (frames_of i.stream)

  abbrev units : List UnitValue
  units = take i.count (drop (t - i.count) own)

  abbrev carried : Carried
  carried = record { fade = i.fade; units = units }

  late : i.count ≤ t
  late = let p = target_late i w t is.target in p.1

  units_long : length units ≡ i.count
  units_long =
      let long : length own ≡ length (old_frames i) = length-map (frames_of i.stream) unit_of_frame ∙ sym (length-map (frames_of i.stream) coded) in
      length-take-le i.count (drop (t - i.count) own) (omega (arith, length-drop (t - i.count) own, long, lt, within, as_many i w, late))

  frame_there : (f : Coded) × (slice_get (new_frames i) t ≡ Some f)
  frame_there = there (new_frames i) t (omega (arith, lt, within))

  config_is : is.config ≡ config i w
  config_is = let f = first_config (new_frames i) is.config is.is in sym f.2 ∙ config_behind i w 0 f.0 f.1

  enough : warm frame_there.0.config ≤ length units
  enough =
      let same : frame_there.0.config ≡ is.config = config_behind i w t frame_there.0 frame_there.1 ∙ sym config_is in
      let needs : warm frame_there.0.config ≡ warm is.config = ap warm same in
      omega (arith, needs, is.enough, units_long)

  faithful : IsFaithful (map coded_shown (new_frames i)) t carried
  faithful =
      let fs : List Shown = map coded_shown (new_frames i) in
      let own_are : own_units fs ≡ own = own_units_are (frames_of (inserted i.stream i.count i.fade i.targets)) ∙ (let k = keeps i w in k.units) in (
        first_units fs ++ take (t - i.count) own,
        units_before fs t
            ∙ ap (λ (us : List UnitValue). first_units fs ++ us) (ap (λ (us : List UnitValue). take t us) own_are ∙ part_before own t i.count late)
            ∙ sym (append_assoc (first_units fs) (take (t - i.count) own) units),
      )

  pub begins_warm : BeginsWarm warm (new_part i t to)
  begins_warm = record {
    frame = frame_there.0;
    carried = carried;
    first = frame_there.1;
    carries = target_carries i w t frame_there.0 is.target frame_there.1;
    enough = enough;
    faithful = faithful;
  }

  pub part_of : IsWholeStream (old_frames i) → IsPart (new_part i t to)
  part_of h = record { stream = whole_behind i w h; some = lt; within = within }

pub targets_begin_warm : TargetsBeginWarm
targets_begin_warm warm i t to w h is lt within =
    let part = part_of warm i w t to is lt within h in
    let warms = begins_warm warm i w t to is lt within in
    record { part = part; warms = warms; sound = (part, inr warms, tt) }
