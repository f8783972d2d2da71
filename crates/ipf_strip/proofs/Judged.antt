-- What the head of a frame tells of the rules.
use Rattle.std.proofs.Common.{◌≡◌, ℕ, Bool, true, false, List, Option, Some, None, refl, ap, ◌∙◌}
use Rattle.std.specs.Prelude.{not}
use Rattle.std.specs.Option.{option_map, option_map_or, option_or}
use Rattle.layout.specs.Text.{bits_of}
use Rattle.usac_cfg.specs.declared.usac_config.UsacConfig.{UsacConfig}
use Rattle.usac_frame.specs.declared.fault.FrameFault.{FrameFault}
use Rattle.usac_frame.specs.declared.fault.FrameFault.TheVariants as frames
use Rattle.usac_frame.specs.declared.frame.Frame.{Frame}
use Rattle.usac_frame.specs.AccessUnit.{IsFrame}
use Rattle.usac_frame.specs.Faults.{is_memory}
use Rattle.usac_frame.specs.Frame.{FrameFaults}
use Rattle.usac_frame.specs.FrameFound.{frame_of_is}
use Rattle.usac_frame.specs.Units.{is_immediate}
use Rattle.latm.specs.Stream.{config_in, au_in}
use Rattle.ipf_frame.specs.declared.stripping.Tail.{Tail}
use Rattle.ipf_frame.specs.Stripping.{may_strip}
use Rattle.ipf_insert.proofs.Frames.{not_short, frame_there, is_short}
use Rattle.ipf_strip.specs.declared.fault.StripFault.{StripFault}
use Rattle.ipf_strip.specs.declared.fault.StripFault.TheVariants.{Frame as TooShort, BadTarget, NotImmediate, NotInserted, Memory}
use Rattle.ipf_strip.specs.Faults.{of_frame}
use Rattle.ipf_strip.specs.Rules.{frame_rule, immediate, fault_if, target_rule}
use Rattle.ipf_strip.specs.Steps.{IfRule}

abbrev Pair : Type 0
Pair = UsacConfig × List ℕ

-- what follows of a rule's refusal follows of another's
pub on_rule : (e : StripFault) (P Q : Type 0) → (P → Q) → IfRule e P → IfRule e Q
on_rule (TooShort n at) P Q f h = f h
on_rule (BadTarget place) P Q f h = f h
on_rule (NotImmediate n) P Q f h = f h
on_rule (NotInserted n) P Q f h = f h
on_rule (Memory error) P Q f h = tt

-- ---- one frame

pub refused_frame : (c : UsacConfig) (au : List ℕ) (n : ℕ) (f : FrameFault) → (is_memory f ≡ false → FrameFaults c f (bits_of au)) → IfRule (of_frame n f) (frame_rule n (c, au) ≡ Some (of_frame n f))
refused_frame c au n (frames.Short at) bad = ap (option_map (TooShort n)) (is_short c au at (bad refl))
refused_frame c au n (frames.Memory e) bad = tt

pub frame_passes : (c : UsacConfig) (au : List ℕ) (n : ℕ) (g : Frame) → IsFrame c au g → frame_rule n (c, au) ≡ None
frame_passes c au n g is = ap (option_map (TooShort n)) (not_short c au g is)

not_mapped : (n : ℕ) (o : Option ℕ) → option_map (TooShort n) o ≡ None → o ≡ None
not_mapped n None e = refl
not_mapped n (Some at) e = absurd (let never : Some (TooShort n at) ≡ None = e in cc)

pub frame_passed : (f : Pair) (n : ℕ) → frame_rule n f ≡ None → (g : Frame) × IsFrame (config_in f) (au_in f) g
frame_passed f n e = frame_there (config_in f) (au_in f) (not_mapped n _ e)

pub immediate_is : (c : UsacConfig) (au : List ℕ) (g : Frame) → IsFrame c au g → immediate (c, au) ≡ is_immediate c g
immediate_is c au g is = ap (λ (o : Option Frame). option_map_or (is_immediate c) o false) (frame_of_is.found c au g is)

-- ---- one target

pub not_immediate : (tail : Tail) (t : ℕ) (f : Pair) → immediate f ≡ false → target_rule tail t f ≡ Some (NotImmediate t)
not_immediate tail t f e = ap (λ (b : Bool). option_or (fault_if (not b) (NotImmediate t)) (fault_if (not (may_strip tail (config_in f) (au_in f))) (NotInserted t))) e

pub judged_by : (tail : Tail) (t : ℕ) (f : Pair) (b : Bool) → immediate f ≡ true → may_strip tail (config_in f) (au_in f) ≡ b → target_rule tail t f ≡ fault_if (not b) (NotInserted t)
judged_by tail t f b e may =
    ap (λ (x : Bool). option_or (fault_if (not x) (NotImmediate t)) (fault_if (not (may_strip tail (config_in f) (au_in f))) (NotInserted t))) e
    ∙ ap (λ (x : Bool). fault_if (not x) (NotInserted t)) may
