-- The access units of a file, and their AudioSpecificConfigs, can be written in the canonical mux.
use Rattle.std.proofs.Common.{◌≡◌, ℕ, ◌<◌, Bool, List, [], ◌∷◌, ◌++◌, Option, Some, None, true, false, refl, sym, subst}
use Rattle.std.specs.Prelude.{All, is_some, ◌||◌}
use Rattle.std.specs.List.{AllByRecursion}
use Rattle.std.proofs.lemmas.Bool.{ltb-false}
use Rattle.std.proofs.lemmas.List.Elements.{All-nil, All-cons, All-append}
use Rattle.layout.specs.Layout.{FitsOption}
use Rattle.bit_core.specs.Plain.{bits}
use Rattle.asc.specs.declared.asc_config.Asc.{Asc}
use Rattle.asc.specs.Asc.{IsWellFormed}
use Rattle.latm.specs.declared.mux_config.MuxConfig.{MuxConfig}
use Rattle.latm.specs.declared.mux_element.MuxElement.{MuxElement}
use Rattle.latm.specs.MuxConfig.{IsWellFormed as IsMuxWellFormed}
use Rattle.latm.specs.MuxElement.{then_in_force, opening, slot_of_bytes}
use Rattle.latm.specs.Written.{canonical_length}
use Rattle.usac_cfg.specs.declared.usac_config.UsacConfig.{UsacConfig}
use Rattle.splicer.specs.declared.turn.Turn.{Turn}
use Rattle.splicer.specs.declared.turn.Turn.TheVariants.{Skip, Start, Join, Play, After}
use Rattle.splicer.specs.declared.fault.SpliceFault.{SpliceFault}
use Rattle.splicer.specs.Runs.{RunValue, fault, turn, behind}
use Rattle.au_stream.specs.Canonical.{Handed, HasFrame}
use Rattle.au_stream.specs.Elements.{Carries}
use Rattle.au_stream.specs.Frames.{Frame, config_of, frames_under, frames_from}
use Rattle.au_stream.specs.Script.{Mark, IsScript}
use Rattle.playing.specs.Spliced.{coded}
use Rattle.joining.specs.Splicing.{handed_with, handed_of, handed_over, is_long, some_long, halt_with, halt}
use Rattle.joining.specs.SpliceEvents.{halt_over}
use Rattle.joining.proofs.NoStop.{halts_none}

-- ---- the frames of a file

pub record IsWritable (f : Frame) : Type 0 where
  pub asc : IsWellFormed f.mux.asc
  pub au : All (λ byte. byte < 256) f.au

abbrev pub AreWritable : List Frame → Type 0
AreWritable [] = Unit {0}
AreWritable (f ∷ fs) = IsWritable f × AreWritable fs

are_bytes : (au : List ℕ) → AllByRecursion (bits 8).Fits au → All (λ byte. byte < 256) au
are_bytes [] h = All-nil (λ byte. byte < 256)
are_bytes (x ∷ xs) h = All-cons (λ byte. byte < 256) x xs h.0.0 (are_bytes xs h.1)

under_writable : (m : Option MuxConfig) (opens : Bool) (slots : List (List ℕ)) → FitsOption IsMuxWellFormed m → AllByRecursion slot_of_bytes.Fits slots → AreWritable (frames_under m opens slots)
under_writable None opens slots w h = tt
under_writable (Some m) opens [] w h = tt
under_writable (Some m) opens (au ∷ aus) w h = (record { asc = w.asc; au = are_bytes au h.0.1.1 }, under_writable (Some m) false aus w h.1)

append_writable : (fs gs : List Frame) → AreWritable fs → AreWritable gs → AreWritable (fs ++ gs)
append_writable [] gs a b = b
append_writable (f ∷ fs) gs a b = (a.0, append_writable fs gs a.1 b)

force_fine : (before own : Option MuxConfig) → FitsOption IsMuxWellFormed before → (opening (is_some before)).Fits own → FitsOption IsMuxWellFormed (then_in_force before own)
force_fine before None w fits = w
force_fine before (Some m) w fits = fits.1.1

from_writable : (before : Option MuxConfig) (text : List ℕ) (es : List MuxElement) (rest : List ℕ) → FitsOption IsMuxWellFormed before → Carries before text es rest → AreWritable (frames_from before es)
from_writable before text [] rest w c = tt
from_writable before text (e ∷ es) rest w c =
    let now = then_in_force before e.config in
    let here : FitsOption IsMuxWellFormed now = force_fine before e.config w c.4.fits.0 in
    append_writable _ _ (under_writable now (is_some e.config) e.slots here c.4.fits.1.0.1) (from_writable now c.1 es rest here c.5)

pub script_writable : (text : List ℕ) (frames : List Frame) (mark : Mark) → IsScript text frames mark → AreWritable frames
script_writable text frames mark s = subst AreWritable (sym s.each) (from_writable None _ s.elements s.rest tt s.longest.carried)

-- ---- those that are handed on

pub with_short : (o : Option SpliceFault) (long : Bool) (n : ℕ) → halt_with o long n ≡ None → long ≡ false
with_short None true n h = absurd cc
with_short None false n h = refl
with_short (Some e) long n h = absurd cc

or_short : (a b : Bool) → (a || b) ≡ false → a ≡ false
or_short true b h = absurd cc
or_short false b h = refl

one_frame : (h : Handed) → FitsOption IsWellFormed h.asc → All (λ byte. byte < 256) h.au → some_long (h ∷ []) ≡ false → All HasFrame (h ∷ [])
one_frame h fits bytes short = All-cons HasFrame h [] (record { asc = fits; au = bytes; short = ltb-false 8191 (canonical_length h.asc h.au) (or_short (is_long h) false short) }) (All-nil HasFrame)

turn_frames : (t : Turn) (asc : Asc) (au : List ℕ) → IsWellFormed asc → All (λ byte. byte < 256) au → some_long (handed_with t asc au) ≡ false → All HasFrame (handed_with t asc au)
turn_frames Skip asc au w b short = All-nil HasFrame
turn_frames (Start units fade) asc au w b short = one_frame (record { asc = Some asc; au = au }) w b short
turn_frames (Join units fade) asc au w b short = one_frame (record { asc = Some asc; au = au }) w b short
turn_frames Play asc au w b short = one_frame (record { asc = None; au = au }) tt b short
turn_frames After asc au w b short = All-nil HasFrame

pub have_frames : (warm : UsacConfig → ℕ) (v : RunValue) (fs : List Frame) → AreWritable fs → halt_over warm v fs ≡ None → All HasFrame (handed_over v fs)
have_frames warm v [] w h = All-nil HasFrame
have_frames warm v (f ∷ fs) w h =
    let both = halts_none (halt v (warm (config_of f)) f) (halt_over warm (behind v (coded f)) fs) h in
    let short = with_short (fault v (warm (config_of f)) (coded f)) (some_long (handed_of v f)) v.frames both.0 in
    All-append HasFrame (handed_of v f) (handed_over (behind v (coded f)) fs) (turn_frames (turn v (coded f)) f.mux.asc f.au w.0.asc w.0.au short) (have_frames warm (behind v (coded f)) fs w.1 both.1)
