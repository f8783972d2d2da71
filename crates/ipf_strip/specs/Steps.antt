-- How far a stream was judged: for the private functions.
use Rattle.std.specs.Prelude.{◌≡◌, ◌≤◌, ℕ, Bool, true, List, length, Option, Some, None, Result, Ok, Err, slice_get}
use Rattle.std.specs.List.{AllByRecursion}
use Rattle.usac_cfg.specs.declared.usac_config.UsacConfig.{UsacConfig}
use Rattle.usac_frame.specs.declared.head.FrameHead.{FrameHead}
use Rattle.usac_frame.specs.Head.{with_rest}
use Rattle.usac_frame.specs.AccessUnit.{IsFrame}
use Rattle.latm.specs.Stream.{config_in, au_in}
use Rattle.ipf_frame.specs.declared.stripping.Tail.{Tail}
use Rattle.ipf_frame.specs.Stripping.{may_strip}
use Rattle.ipf_strip.specs.declared.fault.StripFault.{StripFault}
use Rattle.ipf_strip.specs.declared.fault.StripFault.TheVariants.{Frame, BadTarget, NotImmediate, NotInserted, Memory}
use Rattle.ipf_strip.specs.Rules.{immediate, frame_rule}

-- This follows of a rule's refusal. Out of memory says nothing.
abbrev pub IfRule : StripFault → Type 0 → Type 0
IfRule (Frame n at) P = P
IfRule (BadTarget place) P = P
IfRule (NotImmediate n) P = P
IfRule (NotInserted n) P = P
IfRule (Memory e) P = Unit {0}

-- A step is refused by this rule, or gives a value of which P holds.
abbrev pub Judges : {A : Type 0} → Result A StripFault → Option StripFault → (A → Type 0) → Type 0
Judges (Ok v) rule P = (rule ≡ None) × P v
Judges (Err e) rule P = IfRule e (rule ≡ Some e)

-- the same where there is no value
abbrev pub Passes : Result (Unit {0}) StripFault → Option StripFault → Type 0
Passes (Ok v) rule = rule ≡ None
Passes (Err e) rule = IfRule e (rule ≡ Some e)

-- so many bytes at most as an element can have
abbrev pub AreShort : List (UsacConfig × List ℕ) → Type 0
AreShort fs = AllByRecursion (λ f. length (au_in f) ≤ 8191) fs

-- The frame has this configuration and access unit, is an immediate play-out frame, and its end can become what the tail says.
pub record MayLose (tail : Tail) (fs : List (UsacConfig × List ℕ)) (t : ℕ) (c : UsacConfig) (au : List ℕ) : Type 0 where
  pub is : slice_get fs t ≡ Some (c, au)
  pub short : length au ≤ 8191
  pub immediate : immediate (c, au) ≡ true
  pub may : may_strip tail c au ≡ true

-- The access unit is a frame with this head, or it is refused.
abbrev pub HasHead : Result FrameHead StripFault → ℕ → UsacConfig × List ℕ → Type 0
HasHead (Ok h) n f = (rest : List Bool) × IsFrame (config_in f) (au_in f) (with_rest h rest)
HasHead (Err e) n f = IfRule e (frame_rule n f ≡ Some e)
