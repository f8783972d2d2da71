-- Rules one behind another, and what follows of a refusal.
use Rattle.std.proofs.Common.{◌≡◌, ℕ, zero, suc, ◌<◌, true, false, List, Option, Some, None, Err, refl, ap, subst, ◌∙◌, arith}
use Rattle.usac_cfg.specs.declared.usac_config.UsacConfig.{UsacConfig}
use Rattle.usac_cfg.specs.UsacConfig.{IsWellFormed, is_frame, shape_at, frame_length}
use Rattle.layout.specs.Text.{bits_of}
use Rattle.usac_frame.specs.declared.fault.FrameFault.{FrameFault}
use Rattle.usac_frame.specs.declared.fault.FrameFault.TheVariants as frames
use Rattle.usac_frame.specs.declared.frame.Frame.{Frame as FrameRead}
use Rattle.usac_frame.specs.Faults.{is_memory}
use Rattle.usac_frame.specs.Frame.{FrameFaults}
use Rattle.preroll.specs.declared.fault.CarryFault.{CarryFault}
use Rattle.preroll.specs.declared.fault.CarryFault.TheVariants as carries
use Rattle.preroll.specs.Faults.{is_carry_memory}
use Rattle.preroll.specs.Carried.{IsFirst}
use Rattle.preroll.specs.Carrying.{short_at, carried_of}
use Rattle.preroll.proofs.Judging.{carried_is}
use Rattle.plans.specs.Coded.{Coded}
use Rattle.splicer.specs.declared.fault.SpliceFault.{SpliceFault}
use Rattle.splicer.specs.declared.fault.SpliceFault.TheVariants.{Plan, ConfigChanges, Frame, NotIndependent, Carry, SameConfig, TooFew, PrerollForeign, Ended, Memory}
use Rattle.splicer.specs.Faults.{of_frame, of_carry}
use Rattle.splicer.specs.Rules.{or_then, short_rule, carry_rule}
use Rattle.splicer.specs.Runs.{RunValue, fault, ended_run}
use Rattle.splicer.specs.Checks.{Checks}
use Rattle.splicer.specs.Steps.{IfRule}
use Rattle.splicer.specs.SeenFound.{is_short}

-- what follows of a rule's refusal
pub rule_map : {P Q : Type 0} (e : SpliceFault) → (P → Q) → IfRule e P → IfRule e Q
rule_map (Plan p) f h = f h
rule_map (ConfigChanges n) f h = f h
rule_map (Frame n at) f h = f h
rule_map (NotIndependent n) f h = f h
rule_map (Carry n e) f h = f h
rule_map (SameConfig n) f h = f h
rule_map (TooFew n have need) f h = f h
rule_map (PrerollForeign n k) f h = f h
rule_map Ended f h = absurd h
rule_map (Memory e) f h = tt

pub then_first : (e : SpliceFault) (x y : Option SpliceFault) → x ≡ Some e → or_then x y ≡ Some e
then_first e x y h = ap (λ (z : Option SpliceFault). or_then z y) h

pub then_later : (x y z : Option SpliceFault) → x ≡ None → y ≡ z → or_then x y ≡ z
then_later x y z h k = ap (λ (w : Option SpliceFault). or_then w y) h ∙ k

-- the first of the rules is broken
pub refused_first : (e : SpliceFault) (x y : Option SpliceFault) → IfRule e (x ≡ Some e) → IfRule e (or_then x y ≡ Some e)
refused_first e x y h = rule_map e (then_first e x y) h

-- it is kept, and one behind it is broken
pub refused_later : (e : SpliceFault) (x y : Option SpliceFault) → x ≡ None → IfRule e (y ≡ Some e) → IfRule e (or_then x y ≡ Some e)
refused_later e x y k h = rule_map e (then_later x y (Some e) k) h

-- the same of an equal refusal
pub rule_is : (e d : SpliceFault) → e ≡ d → (rule : Option SpliceFault) → IfRule e (rule ≡ Some e) → IfRule d (rule ≡ Some d)
rule_is e d is rule h = let P : SpliceFault → Type 0 = λ x. IfRule x (rule ≡ Some x) in subst P is h

-- what an access unit is refused for is its first fault
pub refused_frame : (c : UsacConfig) (au : List ℕ) (n : ℕ) (e : FrameFault) → (is_memory e ≡ false → FrameFaults c e (bits_of au)) → IfRule (of_frame n e) (short_rule n (short_at c au) ≡ Some (of_frame n e))
refused_frame c au n (frames.Short at) h = ap (short_rule n) (is_short c au at (h refl))
refused_frame c au n (frames.Memory e) h = tt

-- what a preroll is refused for is its first fault
pub refused_carry : (c : UsacConfig) (g : FrameRead) (n : ℕ) (e : CarryFault) → IsWellFormed c → (is_carry_memory e ≡ false → IsFirst c g e) → IfRule (of_carry n e) (carry_rule n (carried_of c g) ≡ Some (of_carry n e))
refused_carry c g n carries.NotImmediate w h = ap (carry_rule n) (carried_is.found c g (Err carries.NotImmediate) w (h refl))
refused_carry c g n carries.Split w h = ap (carry_rule n) (carried_is.found c g (Err carries.Split) w (h refl))
refused_carry c g n (carries.BadPreroll at) w h = ap (carry_rule n) (carried_is.found c g (Err (carries.BadPreroll at)) w (h refl))
refused_carry c g n carries.BadConfig w h = ap (carry_rule n) (carried_is.found c g (Err carries.BadConfig) w (h refl))
refused_carry c g n carries.ConfigDiffers w h = ap (carry_rule n) (carried_is.found c g (Err carries.ConfigDiffers) w (h refl))
refused_carry c g n (carries.BadUnit k at) w h = ap (carry_rule n) (carried_is.found c g (Err (carries.BadUnit k at)) w (h refl))
refused_carry c g n (carries.Nested k) w h = ap (carry_rule n) (carried_is.found c g (Err (carries.Nested k)) w (h refl))
refused_carry c g n carries.FirstDependent w h = ap (carry_rule n) (carried_is.found c g (Err carries.FirstDependent) w (h refl))
refused_carry c g n (carries.Memory e) w h = tt

some_output : (n : ℕ) → is_frame n ≡ true → 0 < (shape_at n).output
some_output zero e = omega arith
some_output (suc zero) e = omega arith
some_output (suc (suc zero)) e = omega arith
some_output (suc (suc (suc zero))) e = omega arith
some_output (suc (suc (suc (suc zero)))) e = omega arith
some_output (suc (suc (suc (suc (suc n))))) e = absurd cc

-- a frame has samples
pub some_length : (c : UsacConfig) → IsWellFormed c → 0 < frame_length c
some_length c w = some_output c.frame_index w.indices.frame

-- a refusal of a frame, as the answer of a check
pub refused_checks : (e : SpliceFault) (need : ℕ) (f : Coded) (old new : RunValue) → old.ended ≡ false → IfRule e (fault old need f ≡ Some e) → new ≡ ended_run old → Checks (Err e) need f old new
refused_checks (Plan p) need f old new o h w = record { going = o; breaks = h; run = w }
refused_checks (ConfigChanges n) need f old new o h w = record { going = o; breaks = h; run = w }
refused_checks (Frame n at) need f old new o h w = record { going = o; breaks = h; run = w }
refused_checks (NotIndependent n) need f old new o h w = record { going = o; breaks = h; run = w }
refused_checks (Carry n x) need f old new o h w = record { going = o; breaks = h; run = w }
refused_checks (SameConfig n) need f old new o h w = record { going = o; breaks = h; run = w }
refused_checks (TooFew n have wanted) need f old new o h w = record { going = o; breaks = h; run = w }
refused_checks (PrerollForeign n k) need f old new o h w = record { going = o; breaks = h; run = w }
refused_checks Ended need f old new o h w = absurd h
refused_checks (Memory x) need f old new o h w = (o, w)
