-- The first fault is one.
use Rattle.std.proofs.Common.{◌≡◌, ℕ, zero, suc, ◌<◌, Bool, List, [], ◌∷◌, take, Some, sym, ap, subst, ◌∙◌, arith, inl, inr}
use Rattle.std.specs.Prelude.{map, slice_get}
use Rattle.std.specs.List.{AllByRecursion}
use Rattle.std.proofs.lemmas.Bool.{cases_lt}
use Rattle.layout.specs.Text.{bits_of}
use Rattle.layout.proofs.Layouts.{some_is}
use Rattle.usac_cfg.specs.declared.usac_config.UsacConfig.{UsacConfig}
use Rattle.usac_frame.specs.declared.fault.FrameFault.{FrameFault}
use Rattle.usac_frame.specs.declared.fault.FrameFault.TheVariants as frames
use Rattle.usac_frame.specs.declared.frame.Frame.{Frame}
use Rattle.usac_frame.specs.AccessUnit.{unit_in}
use Rattle.usac_frame.specs.Frame.{FrameFaults}
use Rattle.usac_frame.specs.FrameExact.{decided as frames_decided}
use Rattle.usac_frame.specs.FrameFound.{frame_of_is}
use Rattle.usac_frame.specs.Units.{UnitValue, first_payload}
use Rattle.preroll.specs.declared.fault.PreFault.{PreFault}
use Rattle.preroll.specs.declared.fault.PreFault.TheVariants as faults
use Rattle.preroll.specs.declared.fault.CarryFault.{CarryFault}
use Rattle.preroll.specs.declared.fault.CarryFault.TheVariants.{NotImmediate, Split, BadPreroll, BadConfig, ConfigDiffers, BadUnit, Nested, FirstDependent, Memory}
use Rattle.preroll.specs.PreRollExact.{decided}
use Rattle.preroll.specs.Carried.{IsAFrame, IsShortUnit, preroll_bytes, IsNestedUnit, Breaks, rule, IsFirst, Carries}
use Rattle.preroll.specs.Laws.{IsJudgedOnce}
use Rattle.preroll.proofs.Rules.{unit_at, bit_at, is_of_rule, of_preroll}

-- an entry before the n-th
before_get : {A : Type 0} (P : A → Type 0) (xs : List A) (k n : ℕ) (x : A) → AllByRecursion P (take n xs) → k < n → slice_get xs k ≡ Some x → P x
before_get P [] k n x h lt there = absurd cc
before_get P (y ∷ xs) k zero x h lt there = absurd (omega (arith, lt))
before_get P (y ∷ xs) zero (suc n) x h lt there = subst P (some_is y x there) h.0
before_get P (y ∷ xs) (suc k) (suc n) x h lt there = before_get P xs k n x h.1 (omega (arith, lt)) there

abbrev pre_at : PreFault → ℕ
pre_at (faults.Short at) = at
pre_at (faults.Memory e) = 0

abbrev frame_at : FrameFault → ℕ
frame_at (frames.Short at) = at
frame_at (frames.Memory e) = 0

-- of two units at fault none is before the other
not_before : (c : UsacConfig) (us : List (List ℕ)) (j k at to : ℕ) → IsShortUnit c us j at → IsShortUnit c us k to → j < k → ⊥
not_before c us j k at to a b lt =
    let g = before_get (IsAFrame c) us j k a.0 b.3 lt a.1 in
    let i = frame_of_is.is c a.0 g.0 g.1 in
    (frames_decided c).not_both (bits_of a.0) (frames.Short at) (g.0, i.fits, i.spelled) a.2

nested_before : (c : UsacConfig) (us : List (List ℕ)) (j k : ℕ) → IsNestedUnit c us j → IsNestedUnit c us k → j < k → ⊥
nested_before c us j k a b lt =
    let none = before_get (λ u. preroll_bytes c u ≡ 0) us j k a.0 b.3 lt a.1 in
    omega (arith, none, a.2)

-- two numbers of which none is before the other
one_number : (j k : ℕ) → (j < k → ⊥) → (k < j → ⊥) → j ≡ k
one_number j k a b = elim (cases_lt j k) [
  | inl lt ↦ absurd (a lt)
  | inr le ↦ elim (cases_lt k j) [ inl lt ↦ absurd (b lt) | inr more ↦ omega (arith, le, more) ]
]

one_short : (c : UsacConfig) (us : List (List ℕ)) (j k at to : ℕ) → IsShortUnit c us j at → IsShortUnit c us k to → (j ≡ k) × (at ≡ to)
one_short c us j k at to a b =
    let same : j ≡ k = one_number j k (not_before c us j k at to a b) (not_before c us k j to at b a) in
    let unit : a.0 ≡ b.0 = some_is a.0 b.0 (sym a.1 ∙ ap (slice_get us) same ∙ b.1) in
    (same, ap frame_at ((frames_decided c).one_fault (bits_of b.0) (frames.Short at) (frames.Short to) (subst (λ (u : List ℕ). FrameFaults c (frames.Short at) (bits_of u)) unit a.2) b.2))

one_nested : (c : UsacConfig) (us : List (List ℕ)) (j k : ℕ) → IsNestedUnit c us j → IsNestedUnit c us k → j ≡ k
one_nested c us j k a b = one_number j k (nested_before c us j k a b) (nested_before c us k j b a)

-- the same rule, broken with the same places
same_fault : (c : UsacConfig) (f : Frame) (e g : CarryFault) → Breaks c f e → Breaks c f g → rule g ≡ rule e → e ≡ g
same_fault c f NotImmediate g a b is = sym (is_of_rule 1 g (omega arith) is)
same_fault c f Split g a b is = sym (is_of_rule 2 g (omega arith) is)
same_fault c f (BadPreroll at) g a b is =
    let same = is_of_rule 3 g (omega arith) is in
    let there : Breaks c f (BadPreroll (bit_at g)) = subst (Breaks c f) same b in
    let at_is : at ≡ bit_at g = ap pre_at (decided.one_fault (bits_of (first_payload f)) (faults.Short at) (faults.Short (bit_at g)) a there) in
    ap (λ (n : ℕ). let x : CarryFault = BadPreroll n in x) at_is ∙ sym same
same_fault c f BadConfig g a b is = sym (is_of_rule 4 g (omega arith) is)
same_fault c f ConfigDiffers g a b is = sym (is_of_rule 5 g (omega arith) is)
same_fault c f (BadUnit k at) g a b is =
    let same = is_of_rule 6 g (omega arith) is in
    let there : Breaks c f (BadUnit (unit_at g) (bit_at g)) = subst (Breaks c f) same b in
    let short = of_preroll f (λ p. IsShortUnit c p.units (unit_at g) (bit_at g)) a.0 a.1 there in
    let places = one_short c a.0.units k (unit_at g) at (bit_at g) a.2 short in
    ap (λ (n : ℕ). let x : CarryFault = BadUnit n at in x) places.0 ∙ ap (λ (n : ℕ). let x : CarryFault = BadUnit (unit_at g) n in x) places.1 ∙ sym same
same_fault c f (Nested k) g a b is =
    let same = is_of_rule 7 g (omega arith) is in
    let there : Breaks c f (Nested (unit_at g)) = subst (Breaks c f) same b in
    let nested = of_preroll f (λ p. IsNestedUnit c p.units (unit_at g)) a.0 a.1 there in
    ap (λ (n : ℕ). let x : CarryFault = Nested n in x) (one_nested c a.0.units k (unit_at g) a.2 nested) ∙ sym same
same_fault c f FirstDependent g a b is = sym (is_of_rule 8 g (omega arith) is)
same_fault c f (Memory e) g a b is = absurd a

one_first : (c : UsacConfig) (f : Frame) (e g : CarryFault) → IsFirst c f e → IsFirst c f g → e ≡ g
one_first c f e g a b =
    let is : rule g ≡ rule e = one_number (rule g) (rule e) (λ lt. a.before g lt b.breaks) (λ lt. b.before e lt a.breaks) in
    same_fault c f e g a.breaks b.breaks is

one_list : (c : UsacConfig) (f : Frame) (a b : Bool) (us vs : List UnitValue) → Carries c f a us → Carries c f b vs → (a ≡ b) × (us ≡ vs)
one_list c f a b us vs x y =
    let p = x.carried.0 in
    let there = of_preroll f (λ q. (b ≡ q.fade) × (vs ≡ map (unit_in c) q.units)) p x.carried.1 y.carried in
    (x.carried.2.0 ∙ sym there.0, x.carried.2.1 ∙ sym there.1)

pub judged_once : IsJudgedOnce
judged_once = record {
  one_fault = one_first;
  not_both = λ c f e fade us first carries. carries.keeps e first.breaks;
  one_list = one_list;
}
