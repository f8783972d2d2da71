-- The rules that a preroll keeps, one after another, and the faults of those that it breaks.
use Rattle.std.proofs.Common.{◌≡◌, ℕ, zero, suc, true, false, List, [], ◌∷◌, Some, refl, sym, ap, subst, ◌∙◌, arith}
use Rattle.std.specs.Prelude.{map, slice_get}
use Rattle.std.specs.List.{AllByRecursion}
use Rattle.layout.specs.Text.{bits_of}
use Rattle.layout.proofs.Layouts.{some_is}
use Rattle.usac_cfg.specs.declared.usac_config.UsacConfig.{UsacConfig}
use Rattle.usac_frame.specs.declared.fault.FrameFault.TheVariants as frames
use Rattle.usac_frame.specs.declared.frame.Frame.{Frame}
use Rattle.usac_frame.specs.FrameExact.{decided as frames_decided}
use Rattle.usac_frame.specs.FrameFound.{frame_of_is}
use Rattle.usac_frame.specs.Units.{UnitValue, unit_of, payload_length, first_payload, is_whole}
use Rattle.preroll.specs.declared.preroll.PreRoll.{PreRoll}
use Rattle.preroll.specs.declared.fault.PreFault.{PreFault}
use Rattle.preroll.specs.declared.fault.PreFault.TheVariants as faults
use Rattle.preroll.specs.declared.fault.CarryFault.{CarryFault}
use Rattle.preroll.specs.declared.fault.CarryFault.TheVariants.{NotImmediate, Split, BadPreroll, BadConfig, ConfigDiffers, BadUnit, Nested, FirstDependent, Memory}
use Rattle.preroll.specs.Faults.{is_memory, is_carry_memory, from_preroll}
use Rattle.preroll.specs.PreRoll.{preroll_text, PreRollFaults, IsWellFormed}
use Rattle.preroll.specs.Payload.{preroll_of}
use Rattle.preroll.specs.PreRollExact.{decided}
use Rattle.preroll.specs.PayloadFound.{preroll_of_is}
use Rattle.preroll.specs.Carried.{IsNoConfig, IsOtherConfig, IsAFrame, IsShortUnit, IsNestedUnit, starts_independent, preroll_bytes, IsFirst, Carries}
use Rattle.preroll.specs.Steps.{IsOpened, AreFrames, AreCarried, IsConfigFault, IsUnitFault, HaveNoPreRoll, IsNestedFault, first_independent}
use Rattle.preroll.proofs.UnitFrames.{all_frames, units_are, starts_are, none_nested, is_nested}
use Rattle.preroll.proofs.Rules.{Passes, none_tried, next, all_kept, of_preroll}

-- an entry of a list of which each entry has it
pub all_get : {A : Type 0} (P : A → Type 0) (xs : List A) (k : ℕ) (x : A) → AllByRecursion P xs → slice_get xs k ≡ Some x → P x
all_get P [] k x h there = absurd cc
all_get P (y ∷ xs) zero x h there = subst P (some_is y x there) h.0
all_get P (y ∷ xs) (suc k) x h there = all_get P xs k x h.1 there

pub is_opened : (c : UsacConfig) (f : Frame) (p : PreRoll) (payload : List ℕ) → (payload_length c f ≡ 0 → ⊥) → is_whole f ≡ true → payload ≡ first_payload f → IsWellFormed p → bits_of payload ≡ preroll_text p → IsOpened c f p
is_opened c f p payload some whole same fits spelled = record {
  some = some;
  whole = whole;
  is = sym (ap preroll_of same) ∙ preroll_of_is.found payload p fits spelled;
}

pub pass_3 : (c : UsacConfig) (f : Frame) → (payload_length c f ≡ 0 → ⊥) → is_whole f ≡ true → Passes c f 3
pass_3 c f some whole =
    let one = next 1 c f (omega arith) (none_tried c f) (λ k at b. some b) in
    next 2 c f (omega arith) one (λ k at b. absurd (let never : true ≡ false = sym whole ∙ b in cc))

pub pass_4 : (c : UsacConfig) (f : Frame) (p : PreRoll) → IsOpened c f p → Passes c f 4
pass_4 c f p o =
    let v = preroll_of_is.is (first_payload f) p o.is in
    next 3 c f (omega arith) (pass_3 c f o.some o.whole) (λ k at b. decided.not_both (bits_of (first_payload f)) (faults.Short at) (p, v.0, v.1) b)

pub pass_5 : (c : UsacConfig) (f : Frame) (p : PreRoll) → IsOpened c f p → (IsNoConfig p.config → ⊥) → Passes c f 5
pass_5 c f p o good = next 4 c f (omega arith) (pass_4 c f p o) (λ k at b. good (of_preroll f (λ q. IsNoConfig q.config) p o.is b))

pub pass_6 : (c : UsacConfig) (f : Frame) (p : PreRoll) → IsOpened c f p → (IsNoConfig p.config → ⊥) → (IsOtherConfig c p.config → ⊥) → Passes c f 6
pass_6 c f p o good same = next 5 c f (omega arith) (pass_5 c f p o good) (λ k at b. same (of_preroll f (λ q. IsOtherConfig c q.config) p o.is b))

-- the same of bytes that are the preroll's configuration, and of lists that are its access units and their frames
pub pass_6_at : (c : UsacConfig) (f : Frame) (p : PreRoll) (bytes : List ℕ) → IsOpened c f p → bytes ≡ p.config → (IsNoConfig bytes → ⊥) → (IsOtherConfig c bytes → ⊥) → Passes c f 6
pass_6_at c f p bytes o is good same = pass_6 c f p o (λ n. good (subst IsNoConfig (sym is) n)) (λ n. same (subst (IsOtherConfig c) (sym is) n))

pub pass_7 : (c : UsacConfig) (f : Frame) (p : PreRoll) (fs : List Frame) → IsOpened c f p → Passes c f 6 → AreFrames c p.units fs → Passes c f 7
pass_7 c f p fs o tried are = next 6 c f (omega arith) tried (λ k at b.
    let short = of_preroll f (λ q. IsShortUnit c q.units k at) p o.is b in
    let g = all_get (IsAFrame c) p.units k short.0 (all_frames c p.units fs are) short.1 in
    let i = frame_of_is.is c short.0 g.0 g.1 in
    (frames_decided c).not_both (bits_of short.0) (frames.Short at) (g.0, i.fits, i.spelled) short.2)

pub pass_8 : (c : UsacConfig) (f : Frame) (p : PreRoll) (fs : List Frame) → IsOpened c f p → Passes c f 7 → AreFrames c p.units fs → HaveNoPreRoll c fs → Passes c f 8
pass_8 c f p fs o tried are none = next 7 c f (omega arith) tried (λ k at b.
    let nested = of_preroll f (λ q. IsNestedUnit c q.units k) p o.is b in
    let no = all_get (λ u. preroll_bytes c u ≡ 0) p.units k nested.0 (none_nested c p.units fs are none) nested.1 in
    omega (arith, no, nested.2))

pub pass_9 : (c : UsacConfig) (f : Frame) (p : PreRoll) (fs : List Frame) → IsOpened c f p → Passes c f 8 → AreFrames c p.units fs → first_independent f fs ≡ true → Passes c f 9
pass_9 c f p fs o tried are first = next 8 c f (omega arith) tried (λ k at b.
    let dependent = of_preroll f (λ q. starts_independent c f q.units ≡ false) p o.is b in
    absurd (let never : true ≡ false = sym first ∙ starts_are c f p.units fs are ∙ dependent in cc))

pub are_carried : (c : UsacConfig) (f : Frame) (p : PreRoll) (fs : List Frame) → Passes c f 9 → AreFrames c p.units fs → AreCarried c f p fs
are_carried c f p fs tried are = record { keeps = all_kept c f tried; frames = are }

pub carries : (c : UsacConfig) (f : Frame) (p : PreRoll) (fs : List Frame) (us : List UnitValue) → IsOpened c f p → AreCarried c f p fs → us ≡ map (unit_of c) fs → Carries c f p.fade us
carries c f p fs us o are units = record {
  keeps = are.keeps;
  carried = (p, o.is, (refl, units ∙ units_are c p.units fs are.frames));
}

-- ---- the first fault

pub preroll_first : (c : UsacConfig) (f : Frame) (payload : List ℕ) (e : PreFault) → (payload_length c f ≡ 0 → ⊥) → is_whole f ≡ true → payload ≡ first_payload f → (is_memory e ≡ false → PreRollFaults e payload) → is_carry_memory (from_preroll e) ≡ false → IsFirst c f (from_preroll e)
preroll_first c f payload (faults.Short at) some whole same bad want = record {
  breaks = subst (λ (x : List ℕ). PreRollFaults (faults.Short at) x) same (bad refl);
  before = pass_3 c f some whole;
}
preroll_first c f payload (faults.Memory a) some whole same bad want = absurd cc

pub config_first : (c : UsacConfig) (f : Frame) (p : PreRoll) (e : CarryFault) → IsOpened c f p → IsConfigFault c p.config e → IsFirst c f e
config_first c f p NotImmediate o bad = absurd bad
config_first c f p Split o bad = absurd bad
config_first c f p (BadPreroll at) o bad = absurd bad
config_first c f p BadConfig o bad = record { breaks = (p, o.is, bad); before = pass_4 c f p o }
config_first c f p ConfigDiffers o bad = record { breaks = (p, o.is, bad); before = pass_5 c f p o (λ none. none.1 bad.0 bad.1) }
config_first c f p (BadUnit k at) o bad = absurd bad
config_first c f p (Nested k) o bad = absurd bad
config_first c f p FirstDependent o bad = absurd bad
config_first c f p (Memory a) o bad = absurd bad

pub unit_first : (c : UsacConfig) (f : Frame) (p : PreRoll) (e : CarryFault) → IsOpened c f p → Passes c f 6 → IsUnitFault c p.units e → IsFirst c f e
unit_first c f p e o tried bad =
    let is : IsFirst c f (BadUnit bad.0 bad.1) = record { breaks = (p, o.is, bad.3); before = tried } in
    subst (λ (g : CarryFault). IsFirst c f g) (sym bad.2) is

pub nested_first : (c : UsacConfig) (f : Frame) (p : PreRoll) (fs : List Frame) (e : CarryFault) → IsOpened c f p → Passes c f 7 → AreFrames c p.units fs → IsNestedFault c fs e → IsFirst c f e
nested_first c f p fs e o tried are bad =
    let is : IsFirst c f (Nested bad.0) = record { breaks = (p, o.is, is_nested c p.units fs bad.0 bad.1 are bad.3 bad.4 bad.5); before = tried } in
    subst (λ (g : CarryFault). IsFirst c f g) (sym bad.2) is

pub dependent_first : (c : UsacConfig) (f : Frame) (p : PreRoll) (fs : List Frame) → IsOpened c f p → Passes c f 8 → AreFrames c p.units fs → first_independent f fs ≡ false → IsFirst c f FirstDependent
dependent_first c f p fs o tried are first = record { breaks = (p, o.is, sym (starts_are c f p.units fs are) ∙ first); before = tried }

-- what an opened preroll is
pub is_well_formed : (c : UsacConfig) (f : Frame) (p : PreRoll) → IsOpened c f p → IsWellFormed p
is_well_formed c f p o = (preroll_of_is.is (first_payload f) p o.is).0
