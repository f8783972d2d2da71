-- What `switch` writes for the streams of a sound plan is the cut of the plan.
use Rattle.std.proofs.Common.{◌≡◌, ℕ, ◌+◌, List, [], ◌∷◌, ◌++◌, map, Option, Some, None, Ok, Err, Result, refl, sym, ap, subst, ◌∙◌, append_assoc}
use Rattle.std.specs.List.Sorted.{IsStrictlyIncreasing}
use Rattle.std.proofs.lemmas.List.{append-nil, map-append}
use Rattle.std.proofs.lemmas.List.Elements.{All-head, All-tail}
use Rattle.layout.specs.Layout.{FitsOption}
use Rattle.usac_cfg.specs.declared.usac_config.UsacConfig.{UsacConfig}
use Rattle.usac_cfg.specs.UsacConfig.{IsWellFormed}
use Rattle.timeline.specs.declared.piece.Piece.{Piece}
use Rattle.timeline.specs.Plan.{first_position}
use Rattle.plans.specs.Coded.{Coded}
use Rattle.plans.specs.Parts.{Part, part_frames, spliced}
use Rattle.plans.specs.WholeStream.{stream_config}
use Rattle.splicer.specs.declared.asked.Asked.{Asked}
use Rattle.splicer.specs.declared.fault.SpliceFault.{SpliceFault}
use Rattle.splicer.specs.Laws.{GiveSoundPlans}
use Rattle.splicer.specs.Pieces.{fault_over, GivesPiece, asked, GiveParts}
use Rattle.splicer.specs.Pieces.{given as given_of}
use Rattle.splicer.specs.Rules.{or_then}
use Rattle.splicer.specs.Runs.{RunValue, new_run, fault}
use Rattle.splicer.specs.SoFar.{plan_so_far}
use Rattle.splicer.proofs.Given.{gives_frames}
use Rattle.splicer.proofs.Later.{AreWell}
use Rattle.splicer.proofs.Plans.{AllWell, rises_next, rises_later, well_config}
use Rattle.core_iface.specs.Decoding.{Definitions}
use Rattle.core_iface.specs.Samples.{sample_bytes}
use Rattle.switch_player.specs.Laws.{SplicesConverge}
use Rattle.switch_player.specs.Playing.{played_block}
use Rattle.au_stream.specs.Frames.{Frame, config_of}
use Rattle.commands.specs.Commands.{TakesAll, TakesEnd}
use Rattle.playing.specs.Playing.{play_shown, output, output_on}
use Rattle.playing.specs.Spliced.{coded}
use Rattle.playing.specs.Standing.{state_behind}
use Rattle.playing.proofs.Growing.{play_grows, play_command}
use Rattle.playing.proofs.Taking.{splice_bytes}
use Rattle.joining.specs.Renditions.{PieceAt, asked_at, run_at}
use Rattle.joining.specs.Renditions.{next_at as next_piece}
use Rattle.joining.specs.Planning.{first_at}
use Rattle.joining.proofs.PlanSteps.{run_at_push}
use Rattle.joining.proofs.Told.{Comes, asked_is, next_there, next_comes}
use Rattle.switching.specs.Switching.{SwitchAt, given_at, given_so_far, switching, begins_at, next_at}
use Rattle.switching.specs.PlayedPlan.{PlaysSoFar, TakesFiles, written_for, streams_of, PlaysSoundPlans}
use Rattle.switching.proofs.GivenFrames.{coded_given}
use Rattle.switching.proofs.Taken.{given_soundly}

-- ---- the output of frames behind others

module _ (d : Definitions) (earlier : List Frame) where
  abbrev IsBoth : List Frame → Type 0
  IsBoth frames = output d (earlier ++ frames) ≡ output d earlier ++ output_on d earlier frames

  one_both : (before : List Frame) (f : Frame) → IsBoth before → IsBoth (before ++ f ∷ [])
  one_both before f h =
      let all = earlier ++ before in
      let block = sample_bytes (played_block d (state_behind d all) (play_shown f)) in
      ap (output d) (sym (append_assoc earlier before (f ∷ [])))
      ∙ (play_grows d [] all f
      ∙ (ap (λ (xs : List ℕ). xs ++ block) h
      ∙ (append_assoc (output d earlier) (output_on d earlier before) block ∙ ap (λ (xs : List ℕ). output d earlier ++ xs) (sym (play_grows d earlier before f)))))

  all_both : (before frames : List Frame) → IsBoth before → IsBoth (before ++ frames)
  all_both before [] h = subst IsBoth (sym (append-nil before)) h
  all_both before (f ∷ frames) h = subst IsBoth (append_assoc before (f ∷ []) frames) (all_both (before ++ f ∷ []) frames (one_both before f h))

  pub output_both : (frames : List Frame) → IsBoth frames
  output_both frames =
      let none : IsBoth [] = ap (output d) (append-nil earlier) ∙ (sym (append-nil (output d earlier)) ∙ ap (λ (xs : List ℕ). output d earlier ++ xs) (sym (play_command d earlier).nothing)) in
      all_both [] frames none

-- ---- what is written for files

-- the frames that are given out of all files
abbrev given_of_all : SwitchAt → List (List Frame) → List Frame
given_of_all at [] = at.earlier
given_of_all at (frames ∷ files) = given_of_all (next_at at frames) files

written_is : (d : Definitions) (at : SwitchAt) (files : List (List Frame)) → output d at.earlier ++ written_for d at files ≡ output d (given_of_all at files)
written_is d at [] = append-nil (output d at.earlier)
written_is d at (frames ∷ files) =
    let more = written_for d (next_at at frames) files in
    sym (append_assoc (output d at.earlier) (output_on d at.earlier (given_at at frames)) more)
    ∙ (ap (λ (xs : List ℕ). xs ++ more) (sym (output_both d at.earlier (given_at at frames))) ∙ written_is d (next_at at frames) files)

-- ---- frames that break no rule

both_none : (x y : Option SpliceFault) → or_then x y ≡ None → (x ≡ None) × (y ≡ None)
both_none None y h = (refl, h)
both_none (Some e) y h = absurd cc

none_some : (o : Option SpliceFault) (e : SpliceFault) → o ≡ None → o ≡ Some e → ⊥
none_some o e n s = let x : None ≡ Some e = sym n ∙ s in cc

none_taken : (d : Definitions) (at : SwitchAt) (before frames : List Frame) → fault_over d.warm (run_at at.piece before) (map coded frames) ≡ None → TakesAll (switching d at) before frames
none_taken d at before [] h = tt
none_taken d at before (f ∷ frames) h =
    let both = both_none (fault (run_at at.piece before) (d.warm (config_of f)) (coded f)) _ h in (
      (λ r broken. none_some _ broken.0 both.0 broken.1),
      none_taken d at (before ++ f ∷ []) frames (ap (λ (v : RunValue). fault_over d.warm v (map coded frames)) (run_at_push at.piece before f) ∙ both.1),
    )

ok_err : (q : Result Piece SpliceFault) (p : Piece) (e : SpliceFault) → q ≡ Ok p → q ≡ Err e → ⊥
ok_err q p e is not = let x : Ok p ≡ Err e = sym is ∙ not in cc

-- ---- files of a plan

module _ (d : Definitions) where
  -- one file, of which a piece is given
  module _ (at : SwitchAt) (x : ℕ) (ats : List ℕ) (comes : Comes at.piece (x ∷ ats)) (frames : List Frame) (p : Part) (stream : p.stream ≡ map coded frames) (gives : GivesPiece d.warm (asked at.piece.place x (first_position ats) at.piece.before) p.stream (record { from = p.from; to = p.to })) where
    abbrev piece : Piece
    piece = record { from = p.from; to = p.to }

    gives_here : GivesPiece d.warm (asked_at at.piece) (map coded frames) piece
    gives_here =
        subst (λ (a : Asked). GivesPiece d.warm a (map coded frames) piece) (sym (asked_is at.piece x ats comes))
        (subst (λ (fs : List Coded). GivesPiece d.warm (asked at.piece.place x (first_position ats) at.piece.before) fs piece) stream gives)

    file_taken : TakesAll (switching d at) [] frames × TakesEnd (switching d at) frames
    file_taken = (none_taken d at [] frames gives_here.passes, λ r lacks. ok_err _ piece lacks.0 gives_here.ends lacks.1)

    file_given : FitsOption IsWellFormed at.piece.before → IsStrictlyIncreasing (x ∷ ats) → AreWell p.stream → map coded (given_at at frames) ≡ part_frames p
    file_given before rise well =
        let a = asked at.piece.place x (first_position ats) at.piece.before in
        coded_given (new_run (asked_at at.piece)) frames
        ∙ (ap (given_of (new_run (asked_at at.piece))) (sym stream)
        ∙ (ap (λ (b : Asked). given_of (new_run b) p.stream) (asked_is at.piece x ats comes) ∙ gives_frames d.warm a p.stream piece before (rises_next x ats rise) well gives))

  -- what is asked of the next file
  give_next : (at : PieceAt) (x : ℕ) (ats : List ℕ) (frames : List Frame) (b : Option UsacConfig) (ps : List Part) → Comes at (x ∷ ats) → b ≡ stream_config (map coded frames) → GiveParts d.warm (at.place + 1) b ats ps
      → GiveParts d.warm (next_piece at frames).place (next_piece at frames).before ats ps
  give_next at x [] frames b [] comes e g = tt
  give_next at x [] frames b (p ∷ ps) comes e g = absurd g
  give_next at x (y ∷ ats) frames b ps comes e g =
      subst (λ (k : ℕ). GiveParts d.warm k (stream_config (map coded frames)) (y ∷ ats) ps) (sym (next_there at.place at.positions x y ats comes))
      (subst (λ (o : Option UsacConfig). GiveParts d.warm (at.place + 1) o (y ∷ ats) ps) e g)

  record Walked (at : SwitchAt) (parts : List Part) (files : List (List Frame)) : Type 0 where
    takes : TakesFiles d at files
    given : map coded (given_of_all at files) ≡ map coded at.earlier ++ spliced parts

  walk : (at : SwitchAt) (ats : List ℕ) (parts : List Part) (files : List (List Frame)) → Comes at.piece ats → FitsOption IsWellFormed at.piece.before → IsStrictlyIncreasing ats → AllWell parts → map (λ p. p.stream) parts ≡ streams_of files
      → GiveParts d.warm at.piece.place at.piece.before ats parts → Walked at parts files
  walk at [] [] [] comes before rise well e g = record { takes = tt; given = sym (append-nil (map coded at.earlier)) }
  walk at (x ∷ ats) [] [] comes before rise well e g = absurd g
  walk at ats [] (frames ∷ files) comes before rise well e g = absurd cc
  walk at ats (p ∷ ps) [] comes before rise well e g = absurd cc
  walk at [] (p ∷ ps) (frames ∷ files) comes before rise well e g = absurd g
  walk at (x ∷ ats) (p ∷ ps) (frames ∷ files) comes before rise well e g =
      let stream : p.stream ≡ map coded frames = cc in
      let more : map (λ q. q.stream) ps ≡ streams_of files = cc in
      let Well : Part → Type 0 = λ q. AreWell q.stream in
      let here = All-head Well p ps well in
      let next = next_at at frames in
      let config : stream_config p.stream ≡ next.piece.before = ap stream_config stream in
      let taken = file_taken at x ats comes frames p stream g.0 in
      let given = file_given at x ats comes frames p stream g.0 before rise here in
      let later = walk next ats ps files (next_comes at.piece x ats frames comes) (subst (FitsOption IsWellFormed) config (well_config p.stream here)) (rises_later x ats rise) (All-tail Well p ps well) more
      (give_next at.piece x ats frames (stream_config p.stream) ps comes config g.1) in
      record {
        takes = (taken.0, taken.1, later.takes);
        given = later.given
            ∙ (ap (λ (xs : List Coded). xs ++ spliced ps) (map-append coded at.earlier (given_at at frames) ∙ ap (λ (xs : List Coded). map coded at.earlier ++ xs) given)
            ∙ append_assoc (map coded at.earlier) (part_frames p) (spliced ps));
      }

pub first_comes : (positions : List ℕ) → Comes (first_at positions) positions
first_comes [] = tt
first_comes (x ∷ positions) = refl

-- ---- the laws

module _ (d : Definitions) (converge : SplicesConverge d) where
  pub plays_so_far : PlaysSoFar d
  plays_so_far at frames h =
      let plan = plan_so_far h.parts (asked_at at.piece) (map coded frames) in
      let sound = given_soundly d.warm at frames h in
      record { sound = sound.0; splice = sound.1; bytes = splice_bytes d converge plan sound.0 (given_so_far at frames) sound.1 }

  pub plays_sound_plans : GiveSoundPlans → PlaysSoundPlans d
  plays_sound_plans plans positions files plan rise sound timed streams well =
      let give = (plans d.warm positions plan rise well).1 (sound, timed) in
      let at = begins_at positions in
      let all = walk d at positions plan files (first_comes positions) tt rise well streams give in
      record { takes = all.takes; written = written_is d at files ∙ splice_bytes d converge plan sound (given_of_all at files) all.given }
