-- Frames of which none is refused are the splice of their own plan, and it is sound.
use Rattle.std.proofs.Common.{◌≡◌, ◌≢◌, ℕ, zero, suc, ◌+◌, ◌≤◌, ◌<◌, Bool, true, false, List, [], ◌∷◌, ◌++◌, length, map, Option, Some, None, Result, Ok, Err, refl, ap, sym, subst, ◌∙◌, arith, ◌⊎◌, inl, inr}
use Rattle.std.specs.Prelude.{All, if◌then◌else◌, ◌==◌}
use Rattle.std.proofs.lemmas.Bool.{cases_lt, eqb-true, eq-eqb}
use Rattle.std.proofs.lemmas.Grind.{common_steps}
use Rattle.std.proofs.lemmas.List.{take_at}
use Rattle.std.proofs.lemmas.List.Elements.{All-nil, All-cons, All-head, All-tail, All-weaker}
use Rattle.layout.specs.Text.{bits_of}
use Rattle.layout.specs.Laws.{IsSpelling}
use Rattle.usac_cfg.specs.declared.usac_config.UsacConfig.{UsacConfig}
use Rattle.usac_cfg.specs.UsacConfig.{IsWellFormed, rate, channels}
use Rattle.usac_cfg.specs.Same.{same}
use Rattle.usac_cfg.specs.SameFound.{same_true, same_differ}
use Rattle.usac_frame.specs.declared.fault.FrameFault.{FrameFault as FrameError}
use Rattle.usac_frame.specs.declared.fault.FrameFault.TheVariants as frames
use Rattle.usac_frame.specs.declared.frame.Frame.{Frame}
use Rattle.usac_frame.specs.Frame.{frame, FrameFaults}
use Rattle.usac_frame.specs.FrameExact.{decided}
use Rattle.usac_frame.specs.Units.{payload_length}
use Rattle.preroll.specs.declared.fault.CarryFault.{CarryFault}
use Rattle.preroll.specs.Carried.{IsFirst, Carries}
use Rattle.preroll.specs.Carrying.{Carried, Shown, IsJudged, carried_of, units_in}
use Rattle.preroll.proofs.NeverMemory.{frame_never}
use Rattle.preroll.proofs.Judging.{carried_is}
use Rattle.core_iface.specs.Decoding.{Definitions}
use Rattle.plans.specs.Coded.{Coded, coded_shown, IsCoded, CarriesUnits}
use Rattle.plans.specs.WholeStream.{OpensStream}
use Rattle.plans.specs.StreamUnits.{IsFaithful}
use Rattle.plans.specs.Level.{IsLevel}
use Rattle.plans.specs.Parts.{part_frames, spliced, whole_part}
use Rattle.plans.specs.OwnPlan.{before_coded, coded_segments, own_plan}
use Rattle.plans.specs.SoundPlan.{AreJoined, IsSoundPlan}
use Rattle.switch_player.specs.declared.fault.PlayFault.TheVariants.{FrameFault, NotIndependent, RateChanged, ChannelsChanged, Carry, TooFew}
use Rattle.switch_player.specs.Splices.{TakesFrames}
use Rattle.switch_player.specs.Laws.{TakesSplicesAlone}
use Rattle.switch_player.proofs.PartsShown.{carried_shown, not_false}
use Rattle.switch_player.proofs.SplicesTaken.{Takes}

-- ---- what a frame that is not refused is

coded_of : (d : Definitions) (last : Option UsacConfig) (f : Coded) → IsWellFormed f.config → Takes d last f → IsCoded f
coded_of d last f w takes = by_text ((decided f.config).one_of (bits_of f.au))
  where
    by_fault : (e : FrameError) → FrameFaults f.config e (bits_of f.au) → IsCoded f
    by_fault (frames.Short at) bad = absurd (takes (FrameFault at) bad)
    by_fault (frames.Memory a) bad = absurd (let never : true ≡ false = (frame_never f.config).never 0 (frames.Memory a) (bits_of f.au) bad in cc)

    by_text : IsSpelling (frame f.config) (bits_of f.au) ⊎ ((e : FrameError) × FrameFaults f.config e (bits_of f.au)) → IsCoded f
    by_text (inl s) = record { config = w; frame = s.0; is = record { fits = s.1; spelled = s.2 } }
    by_text (inr b) = by_fault b.0 b.1

carries_of : (c : UsacConfig) (g : Frame) → IsWellFormed c → ((e : CarryFault) → IsFirst c g e → ⊥) → (k : Carried) × Carries c g k.fade k.units
carries_of c g w none = by_answer (carried_of c g) (carried_is.is c g w)
  where
    by_answer : (r : Result Carried CarryFault) → IsJudged c g r → (k : Carried) × Carries c g k.fade k.units
    by_answer (Ok k) j = (k, j)
    by_answer (Err e) j = absurd (none e j)

opens_of : (d : Definitions) (f : Coded) → IsCoded f → Takes d None f → OpensStream f
opens_of d f i takes = by_length (payload_length f.config i.frame) refl
  where
    by_length : (n : ℕ) → payload_length f.config i.frame ≡ n → OpensStream f
    by_length zero e = inl (record { frame = i.frame; is = i.is; bare = e; independent = not_false i.frame.independent (λ b. takes NotIndependent (i.frame, i.is, (e, b))) })
    by_length (suc n) e =
        let some : 0 < payload_length f.config i.frame = omega (arith, e) in
        let k = carries_of f.config i.frame i.config (λ x first. takes (Carry x) (i.frame, i.is, (some, first))) in
        inr (k.0, record { frame = i.frame; is = i.is; carries = k.1 })

record Joins (d : Definitions) (c : UsacConfig) (f : Coded) : Type 0 where
  pub level : IsLevel c f.config
  pub carried : Carried
  pub carries : CarriesUnits f carried
  pub enough : d.warm f.config ≤ length carried.units

joins_of : (d : Definitions) (c : UsacConfig) (f : Coded) → IsCoded f → c ≢ f.config → Takes d (Some c) f → Joins d c f
joins_of d c f i other takes =
    let level = by_rate (rate c == rate f.config) refl in
    let k = carries_of f.config i.frame i.config (λ x first. takes (Carry x) (i.frame, i.is, (level, first))) in
    record {
      level = level;
      carried = k.0;
      carries = record { frame = i.frame; is = i.is; carries = k.1 };
      enough = enough level k.0 k.1 (cases_lt (length k.0.units) (d.warm f.config));
    }
  where
    never : (m n : ℕ) → (m == n) ≡ false → m ≢ n
    never m n e q = let t : (m == n) ≡ true = eq-eqb m n q in cc

    by_channels : rate c ≡ rate f.config → (b : Bool) → (channels c == channels f.config) ≡ b → IsLevel c f.config
    by_channels r true e = record { other = other; rate = r; channels = eqb-true (channels c) (channels f.config) e }
    by_channels r false e = absurd (takes ChannelsChanged (i.frame, i.is, (other, r, never (channels c) (channels f.config) e)))

    by_rate : (b : Bool) → (rate c == rate f.config) ≡ b → IsLevel c f.config
    by_rate true e = by_channels (eqb-true (rate c) (rate f.config) e) (channels c == channels f.config) refl
    by_rate false e = absurd (takes RateChanged (i.frame, i.is, (other, never (rate c) (rate f.config) e)))

    enough : IsLevel c f.config → (k : Carried) → Carries f.config i.frame k.fade k.units → (length k.units < d.warm f.config) ⊎ (d.warm f.config ≤ length k.units) → d.warm f.config ≤ length k.units
    enough level k h (inl few) = absurd (takes (TooFew (length k.units) (d.warm f.config)) (i.frame, i.is, (level, record { fade = k.fade; units = k.units; carries = h; have_is = refl; need_is = refl; few = few })))
    enough level k h (inr le) = le

-- ---- its own segments

abbrev Changes : UsacConfig → List (List Coded) → Type 0
Changes c [] = Unit {0}
Changes c ([] ∷ rs) = ⊥
Changes c ((f ∷ fs) ∷ rs) = c ≢ f.config

abbrev Runs : Definitions → Option UsacConfig → List (List Coded) → Type 0
Runs d last [] = Unit {0}
Runs d last ([] ∷ rs) = ⊥
Runs d last ((f ∷ fs) ∷ rs) = Takes d last f × All (λ g. g.config ≡ f.config) (f ∷ fs) × All IsCoded (f ∷ fs) × Changes f.config rs × Runs d (Some f.config) rs

one_run : (f : Coded) → All (λ g. g.config ≡ f.config) (f ∷ [])
one_run f = All-cons (λ g. g.config ≡ f.config) f [] refl (All-nil (λ g. g.config ≡ f.config))

one_coded : (f : Coded) → IsCoded f → All IsCoded (f ∷ [])
one_coded f i = All-cons IsCoded f [] i (All-nil IsCoded)

changes_same : (b c : UsacConfig) (rs : List (List Coded)) → b ≡ c → Changes c rs → Changes b rs
changes_same b c [] e h = tt
changes_same b c ([] ∷ rs) e h = absurd h
changes_same b c ((f ∷ fs) ∷ rs) e h = λ q. h (sym e ∙ q)

runs_before : (d : Definitions) (last : Option UsacConfig) (f : Coded) (rs : List (List Coded)) → IsCoded f → Takes d last f → Runs d (Some f.config) rs → Runs d last (before_coded f rs)
runs_before d last f [] i takes h = (takes, one_run f, one_coded f i, tt, tt)
runs_before d last f ([] ∷ rs) i takes h = absurd h
runs_before d last f ((g ∷ gs) ∷ rs) i takes h = by_test (same f.config g.config) refl
  where
    by_test : (b : Bool) → same f.config g.config ≡ b → Runs d last (if b then (f ∷ g ∷ gs) ∷ rs else (f ∷ []) ∷ (g ∷ gs) ∷ rs)
    by_test true t =
        let e : f.config ≡ g.config = same_true f.config g.config i.config (All-head IsCoded g gs h.2).config t in (
          takes,
          All-cons (λ x. x.config ≡ f.config) f (g ∷ gs) refl (All-weaker (λ x. x.config ≡ g.config) (λ x. x.config ≡ f.config) (λ x q. q ∙ sym e) (g ∷ gs) h.1),
          All-cons IsCoded f (g ∷ gs) i h.2,
          changes_same f.config g.config rs e h.3,
          subst (λ (c : UsacConfig). Runs d (Some c) rs) (sym e) h.4,
        )
    by_test false t = (takes, one_run f, one_coded f i, same_differ f.config g.config t, h)

runs_of : (d : Definitions) (last : Option UsacConfig) (fs : List Coded) → All (λ f. IsWellFormed f.config) fs → TakesFrames d last fs → Runs d last (coded_segments fs)
runs_of d last [] w h = tt
runs_of d last (f ∷ fs) w h =
    let i = coded_of d last f (All-head (λ x. IsWellFormed x.config) f fs w) h.0 in
    runs_before d last f (coded_segments fs) i h.0 (runs_of d (Some f.config) fs (All-tail (λ x. IsWellFormed x.config) f fs w) h.1)

-- what the first frame of a stream carries is what the stream has before it
faithful_first : (f : Coded) (fs : List Coded) (k : Carried) → IsWellFormed f.config → CarriesUnits f k → IsFaithful (map coded_shown (f ∷ fs)) 0 k
faithful_first f fs k w h =
    let x = coded_shown f in
    let own = map (λ (g : Shown). g.unit) (map coded_shown (f ∷ fs)) in
    let e : units_in x.carried ≡ k.units = ap units_in (carried_shown f k w h) in
    ([], take_at (units_in x.carried) own (length (units_in x.carried) + 0) (omega arith) ∙ e)

joined_runs : (d : Definitions) (c : UsacConfig) (rs : List (List Coded)) → Changes c rs → Runs d (Some c) rs → AreJoined d.warm (Some c) (map whole_part rs)
joined_runs d c [] n h = tt
joined_runs d c ([] ∷ rs) n h = absurd h
joined_runs d c ((f ∷ fs) ∷ rs) n h =
    let i = All-head IsCoded f fs h.2 in
    let j = joins_of d c f i n h.0 in (
      record { stream = (h.1, h.2, inr (j.carried, j.carries)); some = omega arith; within = omega arith },
      j.level,
      record { frame = f; carried = j.carried; first = refl; carries = j.carries; enough = j.enough; faithful = faithful_first f fs j.carried i.config j.carries },
      joined_runs d f.config rs h.3 h.4,
    )

sound_runs : (d : Definitions) (rs : List (List Coded)) → Runs d None rs → IsSoundPlan d.warm (map whole_part rs)
sound_runs d [] h = tt
sound_runs d ([] ∷ rs) h = absurd h
sound_runs d ((f ∷ fs) ∷ rs) h = (
  record { stream = (h.1, h.2, opens_of d f (All-head IsCoded f fs h.2) h.0); some = omega arith; within = omega arith },
  inl refl,
  joined_runs d f.config rs h.3 h.4,
)

-- ---- they are all of the frames

frames_whole : (fs : List Coded) → part_frames (whole_part fs) ≡ fs
frames_whole fs = grind (arith, common_steps)

splice_before : (f : Coded) (rs : List (List Coded)) → spliced (map whole_part (before_coded f rs)) ≡ f ∷ spliced (map whole_part rs)
splice_before f [] = ap (λ gs. gs ++ []) (frames_whole (f ∷ []))
splice_before f ([] ∷ rs) = ap (λ gs. gs ++ spliced (map whole_part rs)) (frames_whole (f ∷ [])) ∙ ap (λ gs. f ∷ (gs ++ spliced (map whole_part rs))) (sym (frames_whole []))
splice_before f ((g ∷ gs) ∷ rs) = by_test (same f.config g.config)
  where
    by_test : (b : Bool) → spliced (map whole_part (if b then (f ∷ g ∷ gs) ∷ rs else (f ∷ []) ∷ (g ∷ gs) ∷ rs)) ≡ f ∷ spliced (map whole_part ((g ∷ gs) ∷ rs))
    by_test true = ap (λ xs. xs ++ spliced (map whole_part rs)) (frames_whole (f ∷ g ∷ gs)) ∙ ap (λ xs. f ∷ (xs ++ spliced (map whole_part rs))) (sym (frames_whole (g ∷ gs)))
    by_test false = ap (λ xs. xs ++ spliced (map whole_part ((g ∷ gs) ∷ rs))) (frames_whole (f ∷ []))

pub spliced_own : (fs : List Coded) → spliced (own_plan fs) ≡ fs
spliced_own [] = refl
spliced_own (f ∷ fs) = splice_before f (coded_segments fs) ∙ ap (λ gs. f ∷ gs) (spliced_own fs)

pub takes_splices_alone : (d : Definitions) → TakesSplicesAlone d
takes_splices_alone d fs w h = record { sound = sound_runs d (coded_segments fs) (runs_of d None fs w h); splice = spliced_own fs }
