-- The frames of a file have well formed configurations.
use Rattle.std.proofs.Common.{ℕ, List, [], ◌∷◌, map, Option, Some, None, Bool, false, sym, subst}
use Rattle.std.specs.Prelude.{All, is_some}
use Rattle.std.proofs.lemmas.List.{map-append}
use Rattle.std.proofs.lemmas.List.Elements.{All-nil, All-cons, All-append}
use Rattle.layout.specs.Layout.{FitsOption}
use Rattle.usac_cfg.specs.UsacConfig.{IsWellFormed}
use Rattle.latm.specs.declared.mux_config.MuxConfig.{MuxConfig}
use Rattle.latm.specs.declared.mux_element.MuxElement.{MuxElement}
use Rattle.latm.specs.MuxConfig.{IsWellFormed as IsMuxWellFormed}
use Rattle.latm.specs.MuxElement.{then_in_force, opening}
use Rattle.plans.specs.Coded.{Coded}
use Rattle.au_stream.specs.Elements.{Carries}
use Rattle.au_stream.specs.Frames.{Frame, frames_under, frames_from}
use Rattle.au_stream.specs.Script.{Mark, HasFrames, IsScript}
use Rattle.playing.specs.Spliced.{coded}

abbrev IsFine : Coded → Type 0
IsFine f = IsWellFormed f.config

under_fine : (m : Option MuxConfig) (opens : Bool) (slots : List (List ℕ)) → FitsOption IsMuxWellFormed m → All IsFine (map coded (frames_under m opens slots))
under_fine None opens slots w = All-nil IsFine
under_fine (Some m) opens [] w = All-nil IsFine
under_fine (Some m) opens (au ∷ aus) w = All-cons IsFine _ _ w.asc.usac (under_fine (Some m) false aus w)

force_fine : (before own : Option MuxConfig) → FitsOption IsMuxWellFormed before → (opening (is_some before)).Fits own → FitsOption IsMuxWellFormed (then_in_force before own)
force_fine before None w fits = w
force_fine before (Some m) w fits = fits.1.1

from_fine : (before : Option MuxConfig) (text : List ℕ) (es : List MuxElement) (rest : List ℕ) → FitsOption IsMuxWellFormed before → Carries before text es rest → All IsFine (map coded (frames_from before es))
from_fine before text [] rest w c = All-nil IsFine
from_fine before text (e ∷ es) rest w c =
    let now = then_in_force before e.config in
    let here : FitsOption IsMuxWellFormed now = force_fine before e.config w c.4.fits.0 in
    subst (All IsFine) (sym (map-append coded (frames_under now (is_some e.config) e.slots) (frames_from now es)))
    (All-append IsFine _ _ (under_fine now (is_some e.config) e.slots here) (from_fine now c.1 es rest here c.5))

pub frames_fine : (text : List ℕ) (frames : List Frame) → HasFrames text frames → All IsFine (map coded frames)
frames_fine text frames h = subst (λ (fs : List Frame). All IsFine (map coded fs)) (sym h.each) (from_fine None _ h.elements h.rest tt h.longest.carried)

pub script_fine : (text : List ℕ) (frames : List Frame) (mark : Mark) → IsScript text frames mark → All IsFine (map coded frames)
script_fine text frames mark s = subst (λ (fs : List Frame). All IsFine (map coded fs)) (sym s.each) (from_fine None _ s.elements s.rest tt s.longest.carried)
