-- What the head of a frame tells of the rules of a target.
use Rattle.std.proofs.Common.{◌≡◌, ℕ, ◌-◌, ◌<◌, Bool, true, false, List, length, Option, Some, None, refl, sym, ap, ◌∙◌, arith}
use Rattle.std.specs.Prelude.{◌↔◌, nat_lt, not, slice_get, IsTrue}
use Rattle.std.specs.Option.{option_map_or}
use Rattle.std.proofs.lemmas.Bool.Decides.{nat_tests}
use Rattle.layout.specs.Text.{bits_of}
use Rattle.usac_cfg.specs.declared.usac_config.UsacConfig.{UsacConfig}
use Rattle.usac_frame.specs.declared.fault.FrameFault.{FrameFault}
use Rattle.usac_frame.specs.declared.fault.FrameFault.TheVariants as frames
use Rattle.usac_frame.specs.declared.frame.Frame.{Frame}
use Rattle.usac_frame.specs.declared.head.FrameHead.{FrameHead}
use Rattle.usac_frame.specs.declared.part.ExtPart.{ExtPart}
use Rattle.usac_frame.specs.declared.part.ExtPart.TheVariants.{Absent, Present}
use Rattle.usac_frame.specs.AccessUnit.{IsFrame, unit_where, unit_in}
use Rattle.usac_frame.specs.Faults.{is_memory}
use Rattle.usac_frame.specs.Frame.{FrameFaults}
use Rattle.usac_frame.specs.FrameExact.{decided}
use Rattle.usac_frame.specs.FrameFound.{frame_of_is}
use Rattle.usac_frame.specs.Head.{with_rest}
use Rattle.usac_frame.specs.Units.{UnitValue}
use Rattle.ipf_insert.specs.declared.fault.InsertFault.{InsertFault}
use Rattle.ipf_insert.specs.declared.fault.InsertFault.TheVariants.{NotIndependent, AlreadyPresent, TooEarly, FirstDependent, PayloadTooLong}
use Rattle.ipf_insert.specs.Inserting.{Settled, payload_at}
use Rattle.ipf_insert.specs.Rules.{or_then, fault_if, au_at, is_absent, is_open, frame_of_target, units_of_target}
use Rattle.ipf_insert.specs.Steps.{IsHeadOf}

-- an access unit that is a frame is not short
pub never_short : (c : UsacConfig) (au : List ℕ) (g : Frame) (f : FrameFault) (at : ℕ) → IsFrame c au g → f ≡ frames.Short at → (is_memory f ≡ false → FrameFaults c f (bits_of au)) → ⊥
never_short c au g f at is e bad = (decided c).not_both (bits_of au) f (g, is.fits, is.spelled) (bad (ap is_memory e))

pub head_independent : (c : UsacConfig) (au : List ℕ) (h : FrameHead) → IsHeadOf c au h → (unit_in c au).independent ≡ h.independent
head_independent c au h is = ap (λ (o : Option Frame). let u : UnitValue = unit_where c o in u.independent) (frame_of_is.found c au (with_rest h is.0) is.1)

pub head_open : (c : UsacConfig) (au : List ℕ) (h : FrameHead) → IsHeadOf c au h → is_open c au ≡ is_absent (slice_get h.leading 0)
head_open c au h is = ap (λ (o : Option Frame). option_map_or (λ (g : Frame). is_absent (slice_get g.leading 0)) o false) (frame_of_is.found c au (with_rest h is.0) is.1)

-- what a call tells of part 0
pub told : (r : Bool) (o : Option ExtPart) → IsTrue r ↔ (o ≡ Some Absent) → is_absent o ≡ r
told r None h = by_case r h
  where
    by_case : (b : Bool) → IsTrue b ↔ (None ≡ Some Absent) → false ≡ b
    by_case true q = absurd (let never : None ≡ Some Absent = q.0 refl in cc)
    by_case false q = refl
told r (Some Absent) h = sym (h.1 refl)
told r (Some (Present form start stop payload)) h = by_case r h
  where
    by_case : (b : Bool) → IsTrue b ↔ (Some (Present form start stop payload) ≡ Some Absent) → false ≡ b
    by_case true q = absurd (let never : Some (Present form start stop payload) ≡ Some Absent = q.0 refl in cc)
    by_case false q = refl

module _ (i : Settled) (t : ℕ) (h : FrameHead) (is : IsHeadOf i.config (au_at i.aus t) h) where
  abbrev room : Option InsertFault
  room = fault_if (not (is_open i.config (au_at i.aus t))) (AlreadyPresent t)

  begins : (b : Bool) → h.independent ≡ b → frame_of_target i t ≡ or_then (fault_if (not b) (NotIndependent t)) room
  begins b e = ap (λ (x : Bool). or_then (fault_if (not x) (NotIndependent t)) room) (head_independent i.config (au_at i.aus t) h is ∙ e)

  pub dependent : h.independent ≡ false → frame_of_target i t ≡ Some (NotIndependent t)
  dependent e = begins false e

  has_room : (r b : Bool) → IsTrue r ↔ (slice_get h.leading 0 ≡ Some Absent) → r ≡ b → room ≡ fault_if (not b) (AlreadyPresent t)
  has_room r b tells e = ap (λ (x : Bool). fault_if (not x) (AlreadyPresent t)) (head_open i.config (au_at i.aus t) h is ∙ told r (slice_get h.leading 0) tells ∙ e)

  pub present : (r : Bool) → h.independent ≡ true → IsTrue r ↔ (slice_get h.leading 0 ≡ Some Absent) → r ≡ false → frame_of_target i t ≡ Some (AlreadyPresent t)
  present r e tells q = begins true e ∙ has_room r false tells q

  pub frame_kept : (r : Bool) → h.independent ≡ true → IsTrue r ↔ (slice_get h.leading 0 ≡ Some Absent) → r ≡ true → frame_of_target i t ≡ None
  frame_kept r e tells q = begins true e ∙ has_room r true tells q

module _ (i : Settled) (t : ℕ) (h : FrameHead) (is : IsHeadOf i.config (au_at i.aus (t - i.count)) h) (late : t < i.count → ⊥) where
  abbrev few : Option InsertFault
  few = fault_if (nat_lt 65788 (length (payload_at i t))) (PayloadTooLong t)

  on_time : nat_lt t i.count ≡ false
  on_time = grind (arith, late, nat_tests)

  first : (b : Bool) → h.independent ≡ b → units_of_target i t ≡ or_then (fault_if (not b) (FirstDependent t)) few
  first b e =
      ap (λ (x : Bool). or_then (fault_if x (TooEarly t)) (or_then (fault_if (not (unit_in i.config (au_at i.aus (t - i.count))).independent) (FirstDependent t)) few)) on_time
      ∙ ap (λ (x : Bool). or_then (fault_if (not x) (FirstDependent t)) few) (head_independent i.config (au_at i.aus (t - i.count)) h is ∙ e)

  pub first_dependent : h.independent ≡ false → units_of_target i t ≡ Some (FirstDependent t)
  first_dependent e = first false e

  pub too_long : (payload : List ℕ) → h.independent ≡ true → payload ≡ payload_at i t → 65788 < length payload → units_of_target i t ≡ Some (PayloadTooLong t)
  too_long payload e p lt =
      let long : nat_lt 65788 (length (payload_at i t)) ≡ true = sym (ap (λ (x : List ℕ). nat_lt 65788 (length x)) p) ∙ (let b : nat_lt 65788 (length payload) ≡ true = grind (arith, lt, nat_tests) in b) in
      first true e ∙ ap (λ (x : Bool). fault_if x (PayloadTooLong t)) long

  pub units_kept : (payload : List ℕ) → h.independent ≡ true → payload ≡ payload_at i t → (65788 < length payload → ⊥) → units_of_target i t ≡ None
  units_kept payload e p le =
      let short : nat_lt 65788 (length (payload_at i t)) ≡ false = sym (ap (λ (x : List ℕ). nat_lt 65788 (length x)) p) ∙ (let b : nat_lt 65788 (length payload) ≡ false = grind (arith, le, nat_tests) in b) in
      first true e ∙ ap (λ (x : Bool). fault_if x (PayloadTooLong t)) short
