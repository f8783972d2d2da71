-- Which files `play` takes to their end: the splices of sound plans.
use Rattle.std.proofs.Common.{◌≡◌, ℕ, List, [], ◌∷◌, ◌++◌, map, Option, Some, None, ℤ, refl, ap, sym, subst, ◌∙◌}
use Rattle.usac_cfg.specs.declared.usac_config.UsacConfig.{UsacConfig}
use Rattle.usac_frame.specs.declared.frame.Frame.{Frame as UsacFrame}
use Rattle.preroll.specs.declared.fault.CarryFault.{CarryFault}
use Rattle.preroll.specs.declared.fault.CarryFault.TheVariants as carries
use Rattle.preroll.specs.Carried.{IsFirst}
use Rattle.preroll.specs.Carrying.{Shown}
use Rattle.plans.specs.Plans.{Piece}
use Rattle.plans.specs.Segments.{own}
use Rattle.plans.specs.Coded.{Coded, coded_shown}
use Rattle.plans.specs.Parts.{Part, spliced}
use Rattle.plans.specs.OwnPlan.{own_plan}
use Rattle.plans.specs.SoundPlan.{IsSoundPlan}
use Rattle.core_iface.specs.Decoding.{Definitions, samples_of}
use Rattle.core_iface.specs.Samples.{sample_bytes}
use Rattle.switch_player.specs.declared.fault.PlayFault.TheVariants as plays
use Rattle.switch_player.specs.Cuts.{cut}
use Rattle.switch_player.specs.Laws.{SplicesConverge, RefusesNoSplice, TakesSplicesAlone, CutsEachFrame}
use Rattle.switch_player.specs.Rules.{Refuses, RefusesRead, TakesBy}
use Rattle.switch_player.specs.Splices.{TakesFrames}
use Rattle.au_stream.specs.Frames.{Frame, config_of}
use Rattle.au_stream.specs.Script.{End}
use Rattle.commands.specs.Commands.{Takes, TakesAll}
use Rattle.playing.specs.Playing.{playing, play_shown, last_config, output}
use Rattle.playing.specs.Spliced.{coded, plan_bytes, own_bytes, TakesSplices, TakesFilesOfSplices}
use Rattle.playing.proofs.Growing.{last_config-push}
use Rattle.playing.proofs.FineScripts.{script_fine}
use Rattle.switch_player.proofs.PartsShown.{own_shown}

-- ---- what the command takes, and what a player takes

takes_given : (d : Definitions) (before fs : List Frame) → TakesFrames d (last_config before) (map coded fs) → TakesAll (playing d []) before fs
takes_given d before [] h = tt
takes_given d before (f ∷ fs) h = (
  (λ r x. h.0 x.0 x.1),
  takes_given d (before ++ f ∷ []) fs (subst (λ (o : Option UsacConfig). TakesFrames d o (map coded fs)) (sym (last_config-push before f)) h.1),
)

first_of_read : (d : Definitions) (last : Option UsacConfig) (c : UsacConfig) (g : UsacFrame) (e : CarryFault) → RefusesRead d last c g (plays.Carry e) → IsFirst c g e
first_of_read d None c g e r = r.1
first_of_read d (Some b) c g e r = r.1

takes_carry : (d : Definitions) (before : List Frame) (f : Frame) → Takes (playing d []) before f → (e : CarryFault) → Refuses d (last_config before) (config_of f) f.au (plays.Carry e) → ⊥
takes_carry d before f takes carries.NotImmediate r = takes _ (plays.Carry carries.NotImmediate, r, refl)
takes_carry d before f takes carries.Split r = takes _ (plays.Carry carries.Split, r, refl)
takes_carry d before f takes (carries.BadPreroll at) r = takes _ (plays.Carry (carries.BadPreroll at), r, refl)
takes_carry d before f takes carries.BadConfig r = takes _ (plays.Carry carries.BadConfig, r, refl)
takes_carry d before f takes carries.ConfigDiffers r = takes _ (plays.Carry carries.ConfigDiffers, r, refl)
takes_carry d before f takes (carries.BadUnit k at) r = takes _ (plays.Carry (carries.BadUnit k at), r, refl)
takes_carry d before f takes (carries.Nested k) r = takes _ (plays.Carry (carries.Nested k), r, refl)
takes_carry d before f takes carries.FirstDependent r = takes _ (plays.Carry carries.FirstDependent, r, refl)
takes_carry d before f takes (carries.Memory a) r = (first_of_read d (last_config before) (config_of f) r.0 (carries.Memory a) r.2).breaks

player_takes : (d : Definitions) (before : List Frame) (f : Frame) → Takes (playing d []) before f → TakesBy (Refuses d (last_config before) (config_of f) f.au)
player_takes d before f takes (plays.FrameFault at) r = takes _ (plays.FrameFault at, r, refl)
player_takes d before f takes plays.NotIndependent r = takes _ (plays.NotIndependent, r, refl)
player_takes d before f takes plays.RateChanged r = takes _ (plays.RateChanged, r, refl)
player_takes d before f takes plays.ChannelsChanged r = takes _ (plays.ChannelsChanged, r, refl)
player_takes d before f takes (plays.Carry e) r = takes_carry d before f takes e r
player_takes d before f takes (plays.TooFew have need) r = takes _ (plays.TooFew have need, r, refl)
player_takes d before f takes plays.CoreFault r = r
player_takes d before f takes (plays.Memory e) r = r
player_takes d before f takes plays.Stopped r = r

takes_frames : (d : Definitions) (before fs : List Frame) → TakesAll (playing d []) before fs → TakesFrames d (last_config before) (map coded fs)
takes_frames d before [] h = tt
takes_frames d before (f ∷ fs) h = (
  player_takes d before f h.0,
  subst (λ (o : Option UsacConfig). TakesFrames d o (map coded fs)) (last_config-push before f) (takes_frames d (before ++ f ∷ []) fs h.1),
)

-- ---- the output

shown_twice : (fs : List Frame) → map play_shown fs ≡ map coded_shown (map coded fs)
shown_twice [] = refl
shown_twice (f ∷ fs) = ap (λ (xs : List Shown). play_shown f ∷ xs) (shown_twice fs)

output_is : (d : Definitions) (fs : List Frame) → output d fs ≡ own_bytes d fs
output_is d fs =
    ap (λ (xs : List Shown). sample_bytes (samples_of (cut d (own xs)))) (shown_twice fs)
    ∙ ap (λ (ps : List Piece). sample_bytes (samples_of (cut d ps))) (sym (own_shown (map coded fs)))

-- ---- the law

-- what a sound plan splices gives the output of the plan
pub splice_bytes : (d : Definitions) → SplicesConverge d → (plan : List Part) → IsSoundPlan d.warm plan → (frames : List Frame) → map coded frames ≡ spliced plan → output d frames ≡ plan_bytes d plan
splice_bytes d converge plan sound frames e =
    output_is d frames
    ∙ (ap (λ (fs : List Coded). plan_bytes d (own_plan fs)) e ∙ ap (λ (blocks : List (List ℤ)). sample_bytes (samples_of blocks)) (converge plan sound))

module _ (d : Definitions) (converge : SplicesConverge d) (takes : RefusesNoSplice d) (alone : TakesSplicesAlone d) (each : CutsEachFrame d) where
  splice_taken : (plan : List Part) → IsSoundPlan d.warm plan → (frames : List Frame) → map coded frames ≡ spliced plan → TakesAll (playing d []) [] frames
  splice_taken plan sound frames e = takes_given d [] frames (subst (TakesFrames d None) (sym e) (takes plan sound))

  takes_splices : (text : List ℕ) → TakesSplices d text
  takes_splices text = record {
    splice = λ plan sound is. (is.0, record { script = is.1; takes = splice_taken plan sound is.0 is.2 }, splice_bytes d converge plan sound is.0 is.2);
    own = λ frames p. alone (map coded frames) (script_fine text frames End p.script) (takes_frames d [] frames p.takes);
  }

  pub takes_files_of_splices : TakesFilesOfSplices d
  takes_files_of_splices = record { file = takes_splices; output_of = output_is d; each = each }
