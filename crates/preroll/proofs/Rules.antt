-- The rules in their order: which were tried, and that the first that is broken is one.
use Rattle.std.proofs.Common.{◌≡◌, ℕ, ◌+◌, ◌<◌, Some, refl, sym, ap, subst, ◌∙◌, arith, inl, inr}
use Rattle.std.specs.Prelude.{◌==◌, if◌then◌else◌}
use Rattle.std.proofs.lemmas.Bool.{cases_lt}
use Rattle.layout.proofs.Layouts.{some_is}
use Rattle.usac_cfg.specs.declared.usac_config.UsacConfig.{UsacConfig}
use Rattle.usac_frame.specs.declared.frame.Frame.{Frame}
use Rattle.usac_frame.specs.Units.{first_payload}
use Rattle.preroll.specs.declared.preroll.PreRoll.{PreRoll}
use Rattle.preroll.specs.declared.fault.CarryFault.{CarryFault}
use Rattle.preroll.specs.declared.fault.CarryFault.TheVariants.{NotImmediate, Split, BadPreroll, BadConfig, ConfigDiffers, BadUnit, Nested, FirstDependent, Memory}
use Rattle.preroll.specs.Payload.{preroll_of}
use Rattle.preroll.specs.Carried.{HasPreRoll, Breaks, rule}

-- what a fault says besides its rule
abbrev pub unit_at : CarryFault → ℕ
unit_at NotImmediate = 0
unit_at Split = 0
unit_at (BadPreroll at) = 0
unit_at BadConfig = 0
unit_at ConfigDiffers = 0
unit_at (BadUnit k at) = k
unit_at (Nested k) = k
unit_at FirstDependent = 0
unit_at (Memory e) = 0

abbrev pub bit_at : CarryFault → ℕ
bit_at NotImmediate = 0
bit_at Split = 0
bit_at (BadPreroll at) = at
bit_at BadConfig = 0
bit_at ConfigDiffers = 0
bit_at (BadUnit k at) = at
bit_at (Nested k) = 0
bit_at FirstDependent = 0
bit_at (Memory e) = 0

-- the fault of a rule, at this unit and this bit
abbrev pub fault_of : ℕ → ℕ → ℕ → CarryFault
fault_of n k at =
    if n == 1 then NotImmediate else if n == 2 then Split else if n == 3 then BadPreroll at else if n == 4 then BadConfig else
    if n == 5 then ConfigDiffers else if n == 6 then BadUnit k at else if n == 7 then Nested k else FirstDependent

pub is_fault_of : (e : CarryFault) → rule e < 9 → e ≡ fault_of (rule e) (unit_at e) (bit_at e)
is_fault_of NotImmediate lt = refl
is_fault_of Split lt = refl
is_fault_of (BadPreroll at) lt = refl
is_fault_of BadConfig lt = refl
is_fault_of ConfigDiffers lt = refl
is_fault_of (BadUnit k at) lt = refl
is_fault_of (Nested k) lt = refl
is_fault_of FirstDependent lt = refl
is_fault_of (Memory e) lt = absurd (omega (arith, lt))

-- a fault of a rule, by the number of that rule
pub is_of_rule : (n : ℕ) (e : CarryFault) → n < 9 → rule e ≡ n → e ≡ fault_of n (unit_at e) (bit_at e)
is_of_rule n e lt is = is_fault_of e (omega (arith, lt, is)) ∙ ap (λ (m : ℕ). fault_of m (unit_at e) (bit_at e)) is

-- ---- how far the rules were tried

-- no rule with a number below n is broken
abbrev pub Passes : UsacConfig → Frame → ℕ → Type 0
Passes c f n = (e : CarryFault) → rule e < n → Breaks c f e → ⊥

above_0 : (e : CarryFault) → 0 < rule e
above_0 NotImmediate = omega arith
above_0 Split = omega arith
above_0 (BadPreroll at) = omega arith
above_0 BadConfig = omega arith
above_0 ConfigDiffers = omega arith
above_0 (BadUnit k at) = omega arith
above_0 (Nested k) = omega arith
above_0 FirstDependent = omega arith
above_0 (Memory e) = omega arith

pub none_tried : (c : UsacConfig) (f : Frame) → Passes c f 1
none_tried c f e lt b = omega (arith, lt, above_0 e)

pub next : (n : ℕ) (c : UsacConfig) (f : Frame) → n < 9 → Passes c f n → ((k at : ℕ) → Breaks c f (fault_of n k at) → ⊥) → Passes c f (n + 1)
next n c f few tried kept e lt b =
    elim (cases_lt (rule e) n) [
      | inl less ↦ tried e less b
      | inr le ↦ let is : rule e ≡ n = omega (arith, lt, le) in kept (unit_at e) (bit_at e) (subst (λ (g : CarryFault). Breaks c f g) (is_of_rule n e few is) b)
    ]

not_memory : (c : UsacConfig) (f : Frame) (e : CarryFault) → Breaks c f e → rule e < 9
not_memory c f NotImmediate b = omega arith
not_memory c f Split b = omega arith
not_memory c f (BadPreroll at) b = omega arith
not_memory c f BadConfig b = omega arith
not_memory c f ConfigDiffers b = omega arith
not_memory c f (BadUnit k at) b = omega arith
not_memory c f (Nested k) b = omega arith
not_memory c f FirstDependent b = omega arith
not_memory c f (Memory e) b = absurd b

pub all_kept : (c : UsacConfig) (f : Frame) → Passes c f 9 → (e : CarryFault) → Breaks c f e → ⊥
all_kept c f tried e b = tried e (not_memory c f e b) b

-- ---- a preroll is one

pub of_preroll : (f : Frame) (P : PreRoll → Type 0) (p : PreRoll) → preroll_of (first_payload f) ≡ Some p → HasPreRoll f P → P p
of_preroll f P p is has = subst P (some_is has.0 p (sym has.1 ∙ is)) has.2
