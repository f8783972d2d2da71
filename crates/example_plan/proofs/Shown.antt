-- What the frames of the example show: their units, and what the join carries.
use Rattle.std.proofs.Common.{◌≡◌, ℕ, List, [], ◌∷◌, ◌++◌, refl, ap, ◌∙◌, arith, Result, Ok, Err}
use Rattle.std.specs.Prelude.{map}
use Rattle.std.specs.List.{AllByRecursion}
use Rattle.usac_cfg.specs.declared.usac_config.UsacConfig.{UsacConfig}
use Rattle.usac_frame.specs.declared.frame.Frame.{Frame}
use Rattle.usac_frame.specs.AccessUnit.{IsFrame, unit_where}
use Rattle.usac_frame.specs.FrameFound.{frame_of_is}
use Rattle.usac_frame.specs.Units.{UnitValue, unit_of}
use Rattle.preroll.specs.declared.fault.CarryFault.{CarryFault}
use Rattle.preroll.specs.declared.fault.CarryFault.TheVariants.{NotImmediate}
use Rattle.preroll.specs.Carrying.{Carried, Shown, carried_in, carried_of}
use Rattle.preroll.proofs.Judging.{carried_in_frame, carried_is}
use Rattle.plans.specs.Coded.{Coded, coded_shown}
use Rattle.example_plan.specs.Example.{mono, new_config, short_frame, new_stream, joining_frame, joining}
use Rattle.example_plan.proofs.Configs.{mono_fits}
use Rattle.example_plan.proofs.Streams.{IsBare, bare_in, bare_frame, first_bytes, last_bytes, first_bare, last_bare}
use Rattle.example_plan.proofs.Joining.{joined, is_joined, carries_joining}

abbrev shown_by : UsacConfig → UnitValue → Result Carried CarryFault → Shown
shown_by c u k = record { config = c; unit = u; carried = k }

-- what an access unit that is a frame shows
shows : (f : Coded) (g : Frame) (k : Result Carried CarryFault) → IsFrame f.config f.au g → carried_of f.config g ≡ k → coded_shown f ≡ shown_by f.config (unit_of f.config g) k
shows f g k is carries =
    ap (λ u. shown_by f.config u (carried_in f.config f.au)) (ap (unit_where f.config) (frame_of_is.found f.config f.au g is))
    ∙ ap (shown_by f.config (unit_of f.config g)) (carried_in_frame f.config f.au g is ∙ carries)

-- what a frame of one byte shows
abbrev pub short_shown : ℕ → ℕ → Shown
short_shown id b = shown_by (mono id) (unit_of (mono id) (bare_in b)) (Err NotImmediate)

none_carried : (id b : ℕ) → carried_of (mono id) (bare_in b) ≡ Err NotImmediate
unfolding carried_of
none_carried id b = refl

pub shorts_show : (id : ℕ) (bs : List ℕ) → AllByRecursion IsBare bs → map coded_shown (map (short_frame (mono id)) bs) ≡ map (short_shown id) bs
shorts_show id [] h = refl
shorts_show id (b ∷ bs) h =
    ap (λ s. s ∷ map coded_shown (map (short_frame (mono id)) bs)) (shows (short_frame (mono id) b) (bare_in b) (Err NotImmediate) (bare_frame id b h.0) (none_carried id b))
    ∙ ap (λ ss. short_shown id b ∷ ss) (shorts_show id bs h.1)

-- what the frame of the join shows
abbrev joining_shown : Shown
joining_shown = shown_by new_config (unit_of new_config joined) (Ok joining)

joining_shows : coded_shown joining_frame ≡ joining_shown
joining_shows = shows joining_frame joined (Ok joining) is_joined (carried_is.found new_config joined (Ok joining) (mono_fits 2 (omega arith)) carries_joining)

abbrev pub new_shown : List Shown
new_shown = map (short_shown 2) first_bytes ++ joining_shown ∷ map (short_shown 2) last_bytes

pub new_shows : map coded_shown new_stream ≡ new_shown
new_shows =
    ap (λ ss. ss ++ coded_shown joining_frame ∷ map coded_shown (map (short_frame new_config) last_bytes)) (shorts_show 2 first_bytes first_bare)
    ∙ ap (λ s. map (short_shown 2) first_bytes ++ s ∷ map coded_shown (map (short_frame new_config) last_bytes)) joining_shows
    ∙ ap (λ ss. map (short_shown 2) first_bytes ++ joining_shown ∷ ss) (shorts_show 2 last_bytes last_bare)
