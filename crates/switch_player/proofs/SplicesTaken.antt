-- A player refuses no frame of what a sound plan splices.
use Rattle.std.proofs.Common.{◌≡◌, ℕ, zero, suc, ◌-◌, ◌≤◌, ◌<◌, List, [], ◌∷◌, ◌++◌, length, take, drop, Option, Some, None, refl, ap, sym, subst, ◌∙◌, arith, ◌⊎◌, inl, inr}
use Rattle.std.specs.Prelude.{All, slice_get, slice_range}
use Rattle.std.proofs.lemmas.List.{length-map}
use Rattle.std.proofs.lemmas.List.Elements.{All-head, All-tail, All-take, All-drop, All-same, All-weaker}
use Rattle.usac_cfg.specs.declared.usac_config.UsacConfig.{UsacConfig}
use Rattle.usac_frame.specs.declared.frame.Frame.{Frame}
use Rattle.usac_frame.specs.AccessUnit.{unit_in}
use Rattle.usac_frame.specs.Units.{UnitValue, payload_length, first_payload}
use Rattle.preroll.specs.declared.carried_units.CarriedUnits.{CarriedUnits}
use Rattle.preroll.specs.declared.fault.CarryFault.TheVariants.{NotImmediate}
use Rattle.preroll.specs.PayloadFound.{preroll_of_is}
use Rattle.preroll.specs.Carried.{Carries}
use Rattle.preroll.specs.Carrying.{Carried}
use Rattle.core_iface.specs.Decoding.{Definitions}
use Rattle.plans.specs.Coded.{Coded, IsCoded, CarriesUnits}
use Rattle.plans.specs.WholeStream.{OpensStream, IsWholeStream, stream_config}
use Rattle.plans.specs.Level.{IsLevel, AreLevel}
use Rattle.plans.specs.Parts.{Part, IsPart, part_frames, spliced}
use Rattle.plans.specs.SoundPlan.{BeginsWarm, AreJoined}
use Rattle.switch_player.specs.declared.turn.Turn.TheVariants.{GoesOn, Start, Join}
use Rattle.switch_player.specs.Rules.{Refuses, TakesBy}
use Rattle.switch_player.specs.Splices.{TakesFrames}
use Rattle.switch_player.specs.Laws.{RefusesNoSplice}
use Rattle.switch_player.proofs.Taken.{frame_taken}

-- ---- a part has a first frame

record Shape (fs : List Coded) (from to : ℕ) : Type 0 where
  pub frame : Coded
  pub rest : List Coded
  pub part : slice_range fs from to ≡ frame ∷ rest
  pub first : slice_get fs from ≡ Some frame

shape : (fs : List Coded) (from to : ℕ) → from < to → to ≤ length fs → Shape fs from to
shape [] from to h k = absurd (omega arith)
shape (f ∷ fs) from zero h k = absurd (omega arith)
shape (f ∷ fs) zero (suc n) h k = record {
  frame = f;
  rest = take n fs;
  part = let e : suc n - 0 ≡ suc n = omega arith in ap (λ m. take m (f ∷ fs)) e;
  first = refl;
}
shape (f ∷ fs) (suc k) (suc n) h l =
    let s = shape fs k n (omega arith) (omega arith) in
    record {
      frame = s.frame;
      rest = s.rest;
      part = let e : suc n - suc k ≡ n - k = omega arith in ap (λ m. take m (drop k fs)) e ∙ s.part;
      first = s.first;
    }

-- the first frame of a part, and the rest, which are frames of its configuration
pub record Head (p : Part) : Type 0 where
  pub frame : Coded
  pub rest : List Coded
  pub frames : part_frames p ≡ frame ∷ rest
  pub first : slice_get p.stream p.from ≡ Some frame
  pub one : All (λ g. g.config ≡ frame.config) rest
  pub are : All IsCoded rest
  pub config : stream_config p.stream ≡ Some frame.config

pub head : (p : Part) → IsPart p → Head p
head p h = by_stream p.stream h.stream h.within
  where
    by_stream : (fs : List Coded) → IsWholeStream fs → p.to ≤ length fs → Head (record { stream = fs; from = p.from; to = p.to })
    by_stream [] s high = absurd s
    by_stream (f ∷ fs) s high =
        let x = shape (f ∷ fs) p.from p.to h.some high in
        let P : Coded → Type 0 = λ g. g.config ≡ f.config in
        let one : All P (x.frame ∷ x.rest) = All-same P _ _ (sym x.part) (All-take P (p.to - p.from) _ (All-drop P p.from _ s.0)) in
        let are : All IsCoded (x.frame ∷ x.rest) = All-same IsCoded _ _ (sym x.part) (All-take IsCoded (p.to - p.from) _ (All-drop IsCoded p.from _ s.1)) in
        let e : x.frame.config ≡ f.config = All-head P x.frame x.rest one in
        record {
          frame = x.frame;
          rest = x.rest;
          frames = x.part;
          first = x.first;
          one = All-weaker P (λ g. g.config ≡ x.frame.config) (λ g q. q ∙ sym e) x.rest (All-tail P x.frame x.rest one);
          are = All-tail IsCoded x.frame x.rest are;
          config = ap (λ (c : UsacConfig). let o : Option UsacConfig = Some c in o) (sym e);
        }

-- ---- frames that go on, that open a stream, and that are joined

abbrev pub Takes : Definitions → Option UsacConfig → Coded → Type 0
Takes d last f = TakesBy (Refuses d last f.config f.au)

pub goes_on : (d : Definitions) (c : UsacConfig) (fs rest : List Coded) → All (λ g. g.config ≡ c) fs → All IsCoded fs → TakesFrames d (Some c) rest → TakesFrames d (Some c) (fs ++ rest)
goes_on d c [] rest one are more = more
goes_on d c (f ∷ fs) rest one are more =
    let e : f.config ≡ c = All-head (λ g. g.config ≡ c) f fs one in
    let i = All-head IsCoded f fs are in
    let on = goes_on d c fs rest (All-tail (λ g. g.config ≡ c) f fs one) (All-tail IsCoded f fs are) more in
    (frame_taken d f.config f.au i.frame GoesOn (Some c) i.is (sym e), subst (λ (x : UsacConfig). TakesFrames d (Some x) (fs ++ rest)) (sym e) on)

pub few_units : (c : UsacConfig) (g : Frame) (k : Carried) → Carries c g k.fade k.units → length k.units ≤ 18
few_units c g k h =
    let p = h.carried.0 in
    let e : length k.units ≡ length p.units = ap (λ (us : List UnitValue). length us) h.carried.2.1 ∙ length-map p.units (unit_in c) in
    omega (arith, e, (preroll_of_is.is (first_payload g) p h.carried.1).0.few)

-- what is carried, as the code has it
unfoldable pub code_value : (c : UsacConfig) (g : Frame) (k : Carried) → Carries c g k.fade k.units → CarriedUnits
code_value c g k h = record { fade = k.fade; units = k.units; few = few_units c g k h }

positive : (n : ℕ) → (n ≡ 0 → ⊥) → 0 < n
positive zero h = absurd (h refl)
positive (suc n) h = omega arith

start_carries : (d : Definitions) (f : Coded) (k : Carried) → CarriesUnits f k → Takes d None f
unfolding code_value
start_carries d f k h =
    frame_taken d f.config f.au h.frame (Start (Some (code_value f.config h.frame k h.carries))) None h.is (positive (payload_length f.config h.frame) (h.carries.keeps NotImmediate), h.carries)

start_opens : (d : Definitions) (f : Coded) → OpensStream f → Takes d None f
start_opens d f (inl p) = frame_taken d f.config f.au p.frame (Start None) None p.is (p.bare, p.independent)
start_opens d f (inr k) = start_carries d f k.0 k.1

join_carries : (d : Definitions) (c : UsacConfig) (f : Coded) (k : Carried) → IsLevel c f.config → CarriesUnits f k → d.warm f.config ≤ length k.units → Takes d (Some c) f
unfolding code_value
join_carries d c f k level h enough =
    frame_taken d f.config f.au h.frame (Join (code_value f.config h.frame k h.carries)) (Some c) h.is (level, (h.carries, enough))

-- ---- the parts of a plan

pub same_some : (x y : Coded) → Some x ≡ Some y → x ≡ y
same_some x y e = cc

part_taken : (d : Definitions) (last : Option UsacConfig) (p : Part) (h : Head p) (rest : List Coded) → Takes d last h.frame → TakesFrames d (Some h.frame.config) rest → TakesFrames d last (part_frames p ++ rest)
part_taken d last p h rest first more =
    subst (λ (fs : List Coded). TakesFrames d last (fs ++ rest)) (sym h.frames) (first, goes_on d h.frame.config h.rest rest h.one h.are more)

joined_taken : (d : Definitions) (c : UsacConfig) (ps : List Part) → AreJoined d.warm (Some c) ps → TakesFrames d (Some c) (spliced ps)
joined_taken d c [] j = tt
joined_taken d c (p ∷ ps) j =
    let h = head p j.0 in
    let w = j.2 in
    let x = h.frame.config in
    let is : w.frame ≡ h.frame = same_some w.frame h.frame (sym w.first ∙ h.first) in
    let level : IsLevel c x = subst (AreLevel (Some c)) h.config j.1 in
    let carried : CarriesUnits h.frame w.carried = subst (λ (f : Coded). CarriesUnits f w.carried) is w.carries in
    let enough : d.warm x ≤ length w.carried.units = subst (λ (f : Coded). d.warm f.config ≤ length w.carried.units) is w.enough in
    let behind : AreJoined d.warm (Some x) ps = subst (λ (o : Option UsacConfig). AreJoined d.warm o ps) h.config j.3 in
    part_taken d (Some c) p h (spliced ps) (join_carries d c h.frame w.carried level carried enough) (joined_taken d x ps behind)

opens_first : (fs : List Coded) (x : Coded) → IsWholeStream fs → slice_get fs 0 ≡ Some x → OpensStream x
opens_first [] x s e = absurd s
opens_first (f ∷ fs) x s e = subst OpensStream (same_some f x e) s.2

pub refuses_no_splice : (d : Definitions) → RefusesNoSplice d
refuses_no_splice d [] s = tt
refuses_no_splice d (p ∷ ps) s =
    let h = head p s.0 in
    let behind : AreJoined d.warm (Some h.frame.config) ps = subst (λ (o : Option UsacConfig). AreJoined d.warm o ps) h.config s.2 in
    part_taken d None p h (spliced ps) (by_start h s.1) (joined_taken d h.frame.config ps behind)
  where
    by_start : (h : Head p) → (p.from ≡ 0) ⊎ BeginsWarm d.warm p → Takes d None h.frame
    by_start h (inl z) =
        let part : IsPart p = s.0 in
        start_opens d h.frame (opens_first p.stream h.frame part.stream (ap (slice_get p.stream) (sym z) ∙ h.first))
    by_start h (inr w) = start_carries d h.frame w.carried (subst (λ (f : Coded). CarriesUnits f w.carried) (same_some w.frame h.frame (sym w.first ∙ h.first)) w.carries)
