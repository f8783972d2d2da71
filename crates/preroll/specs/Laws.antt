-- What is true of every preroll, and of the rules.
use Rattle.std.specs.Prelude.{◌≡◌, ℕ, ◌<◌, Bool, true, false, List, ◌++◌, replicate, Some, None, Result, IfOk, IfErr}
use Rattle.layout.specs.Laws.{SpellsOnce, IsDecidedWhole}
use Rattle.layout.specs.Reading.{ReadsText}
use Rattle.layout.specs.Text.{bits_of, pad}
use Rattle.usac_cfg.specs.declared.usac_config.UsacConfig.{UsacConfig}
use Rattle.usac_cfg.specs.UsacConfig as configuration
use Rattle.usac_frame.specs.declared.frame.Frame.{Frame}
use Rattle.usac_frame.specs.AccessUnit.{IsFrame}
use Rattle.usac_frame.specs.Units.{UnitValue}
use Rattle.preroll.specs.declared.fault.PreFault.{PreFault}
use Rattle.preroll.specs.declared.fault.CarryFault.{CarryFault}
use Rattle.preroll.specs.declared.preroll.PreRoll.{PreRoll}
use Rattle.preroll.specs.Faults.{is_memory}
use Rattle.preroll.specs.PreRoll.{preroll, preroll_text, PreRollFaults, IsWellFormed}
use Rattle.preroll.specs.Payload.{preroll_of, fault_of}
use Rattle.preroll.specs.Carried.{IsFirst, Carries}
use Rattle.preroll.specs.Carrying.{Carried, IsJudged, carried_of, Shown, shown, Shows}

-- A payload is at most one preroll.
abbrev pub IsSpelledOnce : Type 0
IsSpelledOnce = SpellsOnce preroll

-- A payload is a preroll, or has a fault, and not both; and it has one fault at most.
abbrev pub IsDecided : Type 0
IsDecided = IsDecidedWhole preroll

-- The preroll of a payload is the one whose spelling it is; a payload with a fault is none.
pub record IsPreRollOf : Type 0 where
  pub is : (payload : List ℕ) (p : PreRoll) → preroll_of payload ≡ Some p → IsWellFormed p × (bits_of payload ≡ preroll_text p)
  pub found : (payload : List ℕ) (p : PreRoll) → IsWellFormed p → bits_of payload ≡ preroll_text p → preroll_of payload ≡ Some p
  pub none : (payload : List ℕ) (e : PreFault) → PreRollFaults e payload → preroll_of payload ≡ None

-- The fault of a payload is its first one.
pub record IsFaultOf : Type 0 where
  pub is : (payload : List ℕ) (e : PreFault) → fault_of payload ≡ Some e → PreRollFaults e payload
  pub found : (payload : List ℕ) (e : PreFault) → PreRollFaults e payload → fault_of payload ≡ Some e

-- the preroll with so many zeros behind it
abbrev pub with_zeros : PreRoll → ℕ → PreRoll
with_zeros p n = record { config = p.config; fade = p.fade; reserved = p.reserved; units = p.units; tail = p.tail ++ replicate n false }

-- What is written of a preroll is read as this preroll with fewer than 8 zeros behind it, unless memory fails.
abbrev pub IsReadBack : Type 0
IsReadBack = (p : PreRoll) (bytes : List ℕ) (result : Result PreRoll PreFault) → IsWellFormed p → bits_of bytes ≡ pad (preroll_text p) → ReadsText is_memory preroll (bits_of bytes) result
    → (n : ℕ) × (n < 8) × IfErr result (λ e. is_memory e ≡ true) × IfOk result (λ q. q ≡ with_zeros p n)

-- A frame has one first fault at most, and none where it carries units; and these are one list, with one flag.
pub record IsJudgedOnce : Type 0 where
  pub one_fault : (c : UsacConfig) (f : Frame) (e g : CarryFault) → IsFirst c f e → IsFirst c f g → e ≡ g
  pub not_both : (c : UsacConfig) (f : Frame) (e : CarryFault) (fade : Bool) (us : List UnitValue) → IsFirst c f e → Carries c f fade us → ⊥
  pub one_list : (c : UsacConfig) (f : Frame) (a b : Bool) (us vs : List UnitValue) → Carries c f a us → Carries c f b vs → (a ≡ b) × (us ≡ vs)

-- A frame carries units, or breaks a rule first, and which of the two is one answer: `carried_of` gives it.
pub record IsCarriedOf : Type 0 where
  pub is : (c : UsacConfig) (f : Frame) → configuration.IsWellFormed c → IsJudged c f (carried_of c f)
  pub found : (c : UsacConfig) (f : Frame) (r : Result Carried CarryFault) → configuration.IsWellFormed c → IsJudged c f r → carried_of c f ≡ r

-- What an access unit that is a frame shows is what `shown` gives, and nothing else.
pub record IsShownOf : Type 0 where
  pub shows : (c : UsacConfig) (au : List ℕ) (g : Frame) → configuration.IsWellFormed c → IsFrame c au g → Shows c au (shown c au)
  pub once : (c : UsacConfig) (au : List ℕ) (s : Shown) → configuration.IsWellFormed c → Shows c au s → s ≡ shown c au
