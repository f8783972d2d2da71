-- Where `splice` has no stop, `plan` has no event: so the files are planned soundly.
use Rattle.std.proofs.Common.{◌≡◌, ℕ, ◌+◌, List, [], ◌∷◌, length, map, Option, Some, None, Bool, refl, ap, ◌∙◌}
use Rattle.usac_cfg.specs.declared.usac_config.UsacConfig.{UsacConfig}
use Rattle.timeline.specs.Plan.{first_position}
use Rattle.plans.specs.WholeStream.{stream_config}
use Rattle.splicer.specs.declared.asked.Asked.{Asked}
use Rattle.splicer.specs.declared.fault.SpliceFault.{SpliceFault}
use Rattle.splicer.specs.Pieces.{asked, fault_over}
use Rattle.splicer.specs.Rules.{or_then}
use Rattle.splicer.specs.Runs.{RunValue, new_run, fault, behind}
use Rattle.au_stream.specs.Frames.{Frame, config_of}
use Rattle.playing.specs.Spliced.{coded}
use Rattle.joining.specs.Events.{FileScript, Event, rule_event, coded_of, file_event, files_event, first_event, AreScripts}
use Rattle.joining.specs.Answers.{ArePlanned, NoEventIsAPlan}
use Rattle.joining.specs.Splicing.{Halt, halt_with, halt, some_long, handed_of}
use Rattle.joining.specs.SpliceEvents.{Stop, or_stop, frame_stop, stop_behind, or_halt, halt_over, file_stop, files_stop, first_stop}
use Rattle.joining.proofs.NoEvent.{both_none}

-- ---- one of two

pub stops_none : (x y : Option Stop) → or_stop x y ≡ None → (x ≡ None) × (y ≡ None)
stops_none None y h = (refl, h)
stops_none (Some e) y h = absurd cc

pub halts_none : (x y : Option Halt) → or_halt x y ≡ None → (x ≡ None) × (y ≡ None)
halts_none None y h = (refl, h)
halts_none (Some e) y h = absurd cc

pub frame_none : (k : ℕ) (o : Option Halt) → frame_stop k o ≡ None → o ≡ None
frame_none k None h = refl
frame_none k (Some e) h = absurd cc

pub behind_none : (o : Option Event) → stop_behind o ≡ None → o ≡ None
behind_none None h = refl
behind_none (Some e) h = absurd cc

with_none : (o : Option SpliceFault) (long : Bool) (n : ℕ) → halt_with o long n ≡ None → o ≡ None
with_none None long n h = refl
with_none (Some e) long n h = absurd cc

-- ---- one file

-- frames that are not refused break no rule
over_none : (warm : UsacConfig → ℕ) (v : RunValue) (fs : List Frame) → halt_over warm v fs ≡ None → fault_over warm v (map coded fs) ≡ None
over_none warm v [] h = refl
over_none warm v (f ∷ fs) h =
    let both = halts_none (halt v (warm (config_of f)) f) (halt_over warm (behind v (coded f)) fs) h in
    let here = with_none (fault v (warm (config_of f)) (coded f)) (some_long (handed_of v f)) v.frames both.0 in
    ap (λ (o : Option SpliceFault). or_then o (fault_over warm (behind v (coded f)) (map coded fs))) here ∙ over_none warm (behind v (coded f)) fs both.1

pub file_none : (warm : UsacConfig → ℕ) (a : Asked) (s : FileScript) → file_stop warm a s ≡ None → file_event warm a s ≡ None
file_none warm a s h =
    let both = stops_none _ _ h in
    let rules = over_none warm (new_run a) s.frames (frame_none a.piece _ both.0) in
    both_none _ _ (ap (rule_event a.piece) rules) (behind_none _ both.1)

-- ---- all files

files_none : (warm : UsacConfig → ℕ) (k : ℕ) (before : Option UsacConfig) (ats : List ℕ) (ss : List FileScript) → files_stop warm k before ats ss ≡ None → files_event warm k before ats ss ≡ None
files_none warm k before [] ss h = refl
files_none warm k before (x ∷ ats) [] h = refl
files_none warm k before (x ∷ ats) (s ∷ ss) h =
    let both = stops_none _ _ h in
    both_none _ _ (file_none warm (asked k x (first_position ats) before) s both.0) (files_none warm (k + 1) (stream_config (coded_of s)) ats ss both.1)

pub first_none : (warm : UsacConfig → ℕ) (positions : List ℕ) (ss : List FileScript) → first_stop warm positions ss ≡ None → first_event warm positions ss ≡ None
first_none warm positions ss h =
    let both = stops_none _ _ h in
    both_none _ _ (behind_none _ both.0) (files_none warm 0 None positions ss both.1)

pub no_stop_is_planned : NoEventIsAPlan → (warm : UsacConfig → ℕ) (positions : List ℕ) (texts : List (List ℕ)) (ss : List FileScript) → AreScripts texts ss → length positions ≡ length texts → first_stop warm positions ss ≡ None → ArePlanned warm positions ss
no_stop_is_planned law warm positions texts ss are n h = (law warm positions texts ss are n).0 (first_none warm positions ss h)
