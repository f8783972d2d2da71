-- A file that carries a whole stream is taken by `start` at a sound start, and gives the stream's own blocks.
use Rattle.std.proofs.Common.{◌≡◌, ℕ, zero, suc, ◌+◌, ◌<◌, ◌≤◌, Bool, true, false, List, [], ◌∷◌, ◌++◌, length, map, drop, Option, Some, None, ℤ, refl, ap, sym, subst, ◌∙◌, arith, inl, inr}
use Rattle.std.specs.Prelude.{nat_lt, ◌&&◌, ◌==◌, if◌then◌else◌, slice_range}
use Rattle.std.specs.List.{drop-map}
use Rattle.std.proofs.lemmas.Bool.Decides.{nat_tests}
use Rattle.std.proofs.lemmas.List.{append-nil, length-append, length-map, drop_all, drop-append-le}
use Rattle.std.proofs.lemmas.List.Folds.{drop_split}
use Rattle.usac_cfg.specs.declared.usac_config.UsacConfig.{UsacConfig}
use Rattle.plans.specs.Coded.{Coded, coded_shown}
use Rattle.plans.specs.Parts.{Part, part_frames}
use Rattle.core_iface.specs.Decoding.{Definitions, samples_of}
use Rattle.core_iface.specs.Samples.{sample_bytes}
use Rattle.switch_player.specs.Laws.{SplicesConverge, RefusesNoSplice, StartsSoundly}
use Rattle.switch_player.specs.Rules.{TakesBy}
use Rattle.switch_player.specs.Splices.{TakesFrames, TakesFramesAt}
use Rattle.switch_player.specs.Streams.{alone}
use Rattle.au_stream.specs.Frames.{Frame, config_of}
use Rattle.commands.specs.Commands.{Takes, TakesAll}
use Rattle.playing.specs.declared.frame_player.Entry.{Entry}
use Rattle.playing.specs.declared.frame_player.Entry.TheVariants.{Next, Within}
use Rattle.playing.specs.PlayedFrame.{PlayerRefuses}
use Rattle.playing.specs.Playing.{last_config}
use Rattle.playing.specs.Starting.{entry_at, RefusesUnless, starting}
use Rattle.playing.specs.Spliced.{coded}
use Rattle.playing.specs.SoundStarts.{part_from, IsSoundStart, TakesSoundStarts}
use Rattle.playing.proofs.Growing.{last_config-push}
use Rattle.playing.proofs.StartSteps.{not_skipped, skipped_takes}
use Rattle.playing.proofs.Taking.{splice_bytes}

-- ---- which frames are taken

-- a player starts at the first frame, and goes on at the later ones
enters_first : (first : ℕ) → 0 < first → entry_at first first ≡ Within
enters_first first pos =
    let a : nat_lt 0 first ≡ true = grind (arith, nat_tests) in
    let b : (first == first) ≡ true = grind (arith, nat_tests) in
    ap (λ (x : Bool). if x && (first == first) then Within else Next) a ∙ ap (λ (x : Bool). if true && x then Within else Next) b

goes_on : (first number : ℕ) → first < number → entry_at first number ≡ Next
goes_on first number lt =
    let b : (number == first) ≡ false = grind (arith, nat_tests) in
    ap (λ (x : Bool). if nat_lt 0 first && x then Within else Next) b ∙ by_test (nat_lt 0 first)
  where
    by_test : (a : Bool) → (if a && false then Within else Next) ≡ Next
    by_test true = refl
    by_test false = refl

played_taken : (d : Definitions) (first : ℕ) (entry : Entry) (last : Option UsacConfig) (before : List Frame) (f : Frame) → first ≤ length before → entry_at first (length before) ≡ entry → last_config (drop first before) ≡ last → TakesBy (PlayerRefuses entry d last (config_of f) f.au) → Takes (starting d first) before f
played_taken d first entry last before f le e l takes = λ r h.
    let x = subst (λ (b : Bool). RefusesUnless b d first before f r) (not_skipped first before le) h in
    takes x.0
    (subst (λ (o : Option UsacConfig). PlayerRefuses entry d o (config_of f) f.au x.0) l
    (subst (λ (y : Entry). PlayerRefuses y d (last_config (drop first before)) (config_of f) f.au x.0) e x.1))

-- the frame's configuration is the last one behind it
last_is : (first : ℕ) (before : List Frame) (f : Frame) → first ≤ length before → last_config (drop first (before ++ f ∷ [])) ≡ Some (config_of f)
last_is first before f le = ap last_config (drop-append-le first before (f ∷ []) le) ∙ last_config-push (drop first before) f

later_taken : (d : Definitions) (first : ℕ) (before fs : List Frame) → first ≤ length before → entry_at first (length before) ≡ Next → TakesFrames d (last_config (drop first before)) (map coded fs) → TakesAll (starting d first) before fs
later_taken d first before [] le e h = tt
later_taken d first before (f ∷ fs) le e h =
    let long = length-append before (f ∷ []) in (
      played_taken d first Next (last_config (drop first before)) before f le e refl h.0,
      later_taken d first (before ++ f ∷ []) fs (omega (arith, long, le)) (goes_on first (length (before ++ f ∷ [])) (omega (arith, long, le)))
          (subst (λ (o : Option UsacConfig). TakesFrames d o (map coded fs)) (sym (last_is first before f le)) h.1),
    )

-- so many frames are skipped, and the next one is the first
all_taken : (d : Definitions) (first : ℕ) (before fs : List Frame) (k : ℕ) → 0 < first → length before + k ≡ first → TakesFramesAt d (map coded (drop k fs)) → TakesAll (starting d first) before fs
all_taken d first before [] k pos n h = tt
all_taken d first before (f ∷ fs) zero pos n h =
    let long = length-append before (f ∷ []) in
    let le : first ≤ length before = omega (arith, n) in
    let at : length before ≡ first = omega (arith, n) in (
      played_taken d first Within (last_config (drop first before)) before f le (ap (entry_at first) at ∙ enters_first first pos) refl h.0,
      later_taken d first (before ++ f ∷ []) fs (omega (arith, long, le)) (goes_on first (length (before ++ f ∷ [])) (omega (arith, long, le)))
          (subst (λ (o : Option UsacConfig). TakesFrames d o (map coded fs)) (sym (last_is first before f le)) h.1),
    )
all_taken d first before (f ∷ fs) (suc k) pos n h =
    let long = length-append before (f ∷ []) in
    (skipped_takes d first before f (omega (arith, n)), all_taken d first (before ++ f ∷ []) fs k pos (omega (arith, long, n)) h)

-- ---- the law

-- the frames of the part
part_is : (stream : List Coded) (frames : List Frame) (first : ℕ) → map coded frames ≡ stream → first ≤ length stream → part_frames (part_from stream first) ≡ map coded (drop first frames)
part_is stream frames first is le =
    sym (append-nil (part_frames (part_from stream first)))
    ∙ (ap (λ (xs : List Coded). part_frames (part_from stream first) ++ xs) (sym (drop_all (length stream) stream (omega arith)))
    ∙ (sym (drop_split stream first (length stream) le)
    ∙ (ap (drop first) (sym is) ∙ drop-map coded first frames)))

module _ (d : Definitions) (converge : SplicesConverge d) (none : RefusesNoSplice d) (soundly : StartsSoundly d) where
  starts_taken : (stream : List Coded) (frames : List Frame) (first : ℕ) → part_frames (part_from stream first) ≡ map coded (drop first frames) → IsSoundStart d.warm stream first → TakesAll (starting d first) [] frames
  starts_taken stream frames zero part sound =
      let given : TakesFrames d None (map coded frames) = subst (TakesFrames d None) (append-nil (part_frames (part_from stream 0)) ∙ part) (none (part_from stream 0 ∷ []) sound) in
      later_taken d 0 [] frames (omega arith) refl given
  starts_taken stream frames (suc n) part sound = elim sound.1 [
    | inl begins ↦ absurd (omega (arith, begins))
    | inr warm ↦ all_taken d (suc n) [] frames (suc n) (omega arith) (omega arith) (subst (TakesFramesAt d) part (soundly (part_from stream (suc n)) sound.0 warm).takes)
  ]

  pub takes_sound_starts : TakesSoundStarts d
  takes_sound_starts text stream first carries sound =
      let frames = carries.0 in
      let inside : first < length stream = sound.0.some in
      let long : length frames ≡ length stream = sym (length-map frames coded) ∙ ap (λ (fs : List Coded). length fs) carries.2 in
      let part = part_is stream frames first carries.2 (omega (arith, inside)) in
      let plan : List Part = part_from stream first ∷ [] in
      let blocks = slice_range (alone d (map coded_shown stream)) first (length stream) in
      record {
        frames = frames;
        passes = record { script = carries.1; takes = starts_taken stream frames first part sound };
        ends = λ r h. absurd (omega (arith, h.0, inside, long));
        gives = splice_bytes d converge plan sound (drop first frames) (sym part ∙ sym (append-nil (part_frames (part_from stream first)))) ∙ ap (λ (xs : List (List ℤ)). sample_bytes (samples_of xs)) (append-nil blocks);
      }
