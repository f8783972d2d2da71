-- A player takes what is given out of renditions.
use Rattle.std.proofs.Common.{◌≡◌, ℕ, true, List, [], ◌∷◌, ◌++◌, map, Option, None, sym, ap, subst, ◌∙◌, append_assoc}
use Rattle.std.proofs.lemmas.List.{append-nil, map-append}
use Rattle.std.proofs.lemmas.List.Elements.{All-push}
use Rattle.usac_cfg.specs.declared.usac_config.UsacConfig.{UsacConfig}
use Rattle.usac_cfg.specs.UsacConfig.{IsWellFormed}
use Rattle.plans.specs.Coded.{Coded}
use Rattle.plans.specs.Parts.{spliced}
use Rattle.plans.specs.SoundPlan.{IsSoundPlan}
use Rattle.splicer.specs.declared.fault.SpliceFault.{SpliceFault}
use Rattle.splicer.specs.Pieces.{fault_over}
use Rattle.splicer.specs.Rules.{or_then}
use Rattle.splicer.specs.Runs.{new_run, fault}
use Rattle.splicer.specs.SoFar.{plan_so_far}
use Rattle.splicer.proofs.GoingOn.{runs_on}
use Rattle.splicer.proofs.Later.{AreWell}
use Rattle.splicer.proofs.SoFar.{gives_sound_plans_so_far}
use Rattle.core_iface.specs.Decoding.{Definitions}
use Rattle.switch_player.specs.Rules.{Refuses, TakesBy}
use Rattle.switch_player.specs.Splices.{TakesFrames}
use Rattle.switch_player.proofs.SplicesTaken.{refuses_no_splice}
use Rattle.au_stream.specs.Frames.{Frame, config_of}
use Rattle.playing.specs.Playing.{last_config}
use Rattle.playing.specs.Spliced.{coded}
use Rattle.playing.proofs.Growing.{last_config-push}
use Rattle.joining.specs.Renditions.{asked_at, run_at}
use Rattle.switching.specs.Switching.{SwitchAt, given_at, given_so_far, is_given_at}
use Rattle.switching.specs.Standing.{ArePlanned}
use Rattle.switching.proofs.GivenFrames.{coded_given, given_one}

-- ---- a frame more

both_none : (x y : Option SpliceFault) → x ≡ None → y ≡ None → or_then x y ≡ None
both_none x y h k = ap (λ (z : Option SpliceFault). or_then z y) h ∙ k

-- a frame that breaks no rule
pub planned_more : (warm : UsacConfig → ℕ) (at : SwitchAt) (before : List Frame) (f : Frame) → ArePlanned warm at before → IsWellFormed (config_of f) → fault (run_at at.piece before) (warm (config_of f)) (coded f) ≡ None
    → ArePlanned warm at (before ++ f ∷ [])
planned_more warm at before f h w none =
    let v = new_run (asked_at at.piece) in
    let more : map coded (before ++ f ∷ []) ≡ map coded before ++ coded f ∷ [] = map-append coded before (f ∷ []) in
    record {
      rise = h.rise;
      parts = h.parts;
      fine = h.fine;
      asks = h.asks;
      earlier = h.earlier;
      well = subst AreWell (sym more) (All-push (λ (g : Coded). IsWellFormed g.config) (map coded before) (coded f) h.well w);
      passes = ap (fault_over warm v) more ∙ (runs_on.passes warm v (map coded before) (coded f) ∙ both_none (fault_over warm v (map coded before)) (fault (run_at at.piece before) (warm (config_of f)) (coded f)) h.passes none);
    }

-- ---- what was given so far

-- it is the splice of a sound plan
pub given_soundly : (warm : UsacConfig → ℕ) (at : SwitchAt) (frames : List Frame) (h : ArePlanned warm at frames)
    → IsSoundPlan warm (plan_so_far h.parts (asked_at at.piece) (map coded frames)) × (map coded (given_so_far at frames) ≡ spliced (plan_so_far h.parts (asked_at at.piece) (map coded frames)))
given_soundly warm at frames h =
    let a = asked_at at.piece in
    let law = gives_sound_plans_so_far warm at.piece.positions h.parts a (map coded frames) h.rise h.fine h.well h.asks h.passes in (
      law.0,
      map-append coded at.earlier (given_at at frames)
          ∙ (ap (λ (xs : List Coded). xs ++ map coded (given_at at frames)) h.earlier
          ∙ (ap (λ (xs : List Coded). spliced h.parts ++ xs) (coded_given (new_run a) frames) ∙ sym law.1)),
    )

-- the last of frames that a player takes
last_taken : (d : Definitions) (before fs : List Frame) (f : Frame) → TakesFrames d (last_config before) (map coded (fs ++ f ∷ [])) → TakesBy (Refuses d (last_config (before ++ fs)) (config_of f) f.au)
last_taken d before [] f h = subst (λ (xs : List Frame). TakesBy (Refuses d (last_config xs) (config_of f) f.au)) (sym (append-nil before)) h.0
last_taken d before (g ∷ fs) f h =
    subst (λ (xs : List Frame). TakesBy (Refuses d (last_config xs) (config_of f) f.au)) (append_assoc before (g ∷ []) fs)
    (last_taken d (before ++ g ∷ []) fs f (subst (λ (o : Option UsacConfig). TakesFrames d o (map coded (fs ++ f ∷ []))) (sym (last_config-push before g)) h.1))

-- so a player refuses no frame of it
pub given_taken : (d : Definitions) (at : SwitchAt) (before : List Frame) (f : Frame) → ArePlanned d.warm at (before ++ f ∷ []) → is_given_at at before f ≡ true → TakesBy (Refuses d (last_config (given_so_far at before)) (config_of f) f.au)
given_taken d at before f h here =
    let plan = plan_so_far h.parts (asked_at at.piece) (map coded (before ++ f ∷ [])) in
    let sound = given_soundly d.warm at (before ++ f ∷ []) h in
    let frames : map coded (given_so_far at before ++ f ∷ []) ≡ spliced plan = ap (λ (xs : List Frame). map coded xs) (sym (given_one at before f here)) ∙ sound.1 in
    last_taken d [] (given_so_far at before) f (subst (TakesFrames d None) (sym frames) (refuses_no_splice d plan sound.0))
