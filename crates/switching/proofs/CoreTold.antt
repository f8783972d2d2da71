-- What a call of `switch` did in which the core failed.
use Rattle.std.proofs.Common.{◌≡◌, ℕ, List, [], ◌∷◌, ◌++◌, length, Some, refl, sym, ap, subst, ◌∙◌, arith, append_assoc, inl, inr}
use Rattle.core_iface.specs.Decoding.{Definitions}
use Rattle.au_stream.specs.Frames.{Frame}
use Rattle.au_stream.specs.Script.{End, HasFrames}
use Rattle.commands.specs.declared.outcome.Outcome.TheVariants as is
use Rattle.commands.specs.Commands.{Command, TakesAll}
use Rattle.commands.specs.Doing.{IsNotBegun}
use Rattle.commands.specs.Ending.{Traces, TakesFirst, WroteBefore}
use Rattle.commands.specs.OnInputs.{Middle, Passed, DoesInputs, until_middle, from_middle}
use Rattle.playing.specs.Playing.{playing}
use Rattle.joining.specs.Answers.{IsReadOn}
use Rattle.joining.specs.Events.{Marked, Unread, FileScript, NotRead, file_event, files_event}
use Rattle.joining.specs.Renditions.{asked_at}
use Rattle.joining.proofs.Events.{event_close}
use Rattle.joining.proofs.Told.{Comes, next_comes, file_none}
use Rattle.switching.specs.CutShort.{files_given}
use Rattle.switching.specs.SwitchAnswers.{with_frame, AreReached}
use Rattle.switching.specs.Switching.{SwitchAt, given_at, switching, next_at}
use Rattle.switching.proofs.AsPlan.{taken_as_planned, taken_unbroken}
use Rattle.switching.proofs.AsPlay.{plays_given, fails_given, fails_both}
use Rattle.switching.proofs.GivenFrames.{given_here}
use Rattle.switching.proofs.FileSteps.{switches, event_here, event_behind, given_behind, next_is_there, passes_none, passes_unbroken, passes_wrote}
use Rattle.switching.proofs.FileSteps.{given_here as given_ending}

-- the first of frames that are taken
taken_before : (c : Command) (before fs later : List Frame) → TakesAll c before (fs ++ later) → TakesAll c before fs
taken_before c before [] later h = tt
taken_before c before (f ∷ fs) later h = (h.0, taken_before c (before ++ f ∷ []) fs later h.1)

module _ (d : Definitions) where
  -- What the walk says of the files from there on.
  pub record Failed (at : SwitchAt) (ats : List ℕ) (texts taken : List (List ℕ)) (t : Traces) : Type 0 where
    pub scripts : List FileScript
    pub failed : Frame
    pub reached : AreReached texts taken scripts failed
    pub on : IsReadOn (files_event d.warm at.piece.place at.piece.before ats (with_frame scripts failed))
    pub given : files_given d.warm at.piece.place at.piece.before ats (with_frame scripts failed) ≡ files_given d.warm at.piece.place at.piece.before ats scripts ++ failed ∷ []
    pub wrote : WroteBefore (playing d at.earlier) (files_given d.warm at.piece.place at.piece.before ats scripts) failed t

  -- the core failed in the first of the files
  module _ (at : SwitchAt) (x : ℕ) (ats : List ℕ) (comes : Comes at.piece (x ∷ ats)) (frames : List Frame) where
    -- the first of the files, of which so many frames were taken
    abbrev up_to : List Frame → FileScript
    up_to fs = record { frames = fs; close = Unread }

    not_read : (fs : List Frame) → TakesAll (switching d at) [] fs → file_event d.warm (asked_at at.piece) (up_to fs) ≡ Some NotRead
    not_read fs takes = event_close d.warm (asked_at at.piece) (up_to fs) NotRead (file_none d at.piece (up_to fs) fs refl (taken_as_planned d at [] fs takes)) refl

    given_up_to : (fs : List Frame) → TakesAll (switching d at) [] fs → files_given d.warm at.piece.place at.piece.before (x ∷ ats) (up_to fs ∷ []) ≡ given_at at fs
    given_up_to fs takes = given_ending d at x ats comes (up_to fs) [] NotRead fs (not_read fs takes) (taken_unbroken d at fs takes)

    fails_here : (text front : List ℕ) (texts : List (List ℕ)) (f : Frame) (t : Traces) → TakesFirst (switching d at) text (frames ++ f ∷ []) → WroteBefore (switching d at) frames f t → Failed at (x ∷ ats) (text ∷ texts) (front ∷ []) t
    fails_here text front texts f t first wrote =
        let fails = fails_given d at frames f t wrote in
        let takes = first.takes in
        let before = taken_before (switching d at) [] frames (f ∷ []) takes in
        record {
          scripts = up_to frames ∷ [];
          failed = f;
          reached = inr (refl, refl, refl, (first.later, subst (λ (fs : List Frame). HasFrames text fs) (append_assoc frames (f ∷ []) first.later) first.of_file));
          on = subst IsReadOn (sym (event_here d at x ats comes (up_to (frames ++ f ∷ [])) [] NotRead (not_read (frames ++ f ∷ []) takes))) tt;
          given = given_up_to (frames ++ f ∷ []) takes ∙ (given_here at frames f fails.0 ∙ ap (λ (gs : List Frame). gs ++ f ∷ []) (sym (given_up_to frames before)));
          wrote = subst (λ (gs : List Frame). WroteBefore (playing d at.earlier) gs f t) (sym (given_up_to frames before)) fails.1;
        }

  -- it failed in a later one
  with_more : (s : FileScript) (texts taken : List (List ℕ)) (ss : List FileScript) (f : Frame) → AreReached texts taken ss f → with_frame (s ∷ ss) f ≡ s ∷ with_frame ss f
  with_more s texts [] [] f h = absurd h
  with_more s [] (front ∷ taken) [] f h = absurd h
  with_more s (text ∷ texts) (front ∷ taken) [] f h = absurd h
  with_more s texts taken (next ∷ ss) f h = refl

  fails_on : (at : SwitchAt) (x : ℕ) (ats : List ℕ) (comes : Comes at.piece (x ∷ ats)) (text front : List ℕ) (texts taken : List (List ℕ)) (t : Traces) (m : Middle) (next : SwitchAt) (passed : Passed (switches d) at text front t m next)
      → Failed (next_at at passed.ends.0) ats texts taken (from_middle t m) → Failed at (x ∷ ats) (text ∷ texts) (front ∷ taken) t
  fails_on at x ats comes text front texts taken t m next passed more =
      let frames = passed.ends.0 in
      let script = passed.ends.1.script in
      let s : FileScript = record { frames = frames; close = Marked End } in
      let none = passes_none d at s text front t m next passed script refl in
      let unbroken = passes_unbroken d at s text front t m next passed script in
      let own = given_at at frames in
      let with = with_more s texts taken more.scripts more.failed more.reached in
      let place = (next_at at frames).piece.place in
      let before = (next_at at frames).piece.before in
      let given = files_given d.warm place before ats more.scripts in
      let all = given_behind d at x ats comes s more.scripts none unbroken in
      let all_with = given_behind d at x ats comes s (with_frame more.scripts more.failed) none unbroken in
      let both : files_given d.warm at.piece.place at.piece.before (x ∷ ats) (s ∷ with_frame more.scripts more.failed) ≡ files_given d.warm at.piece.place at.piece.before (x ∷ ats) (s ∷ more.scripts) ++ more.failed ∷ [] =
      all_with ∙ (ap (λ (gs : List Frame). own ++ gs) more.given ∙ (sym (append_assoc own given (more.failed ∷ [])) ∙ ap (λ (gs : List Frame). gs ++ more.failed ∷ []) (sym all))) in
      let event = event_behind d at x ats comes s (with_frame more.scripts more.failed) none in
      record {
        scripts = s ∷ more.scripts;
        failed = more.failed;
        reached = inl ((End, refl, script), more.reached);
        on = subst (λ (ss : List FileScript). IsReadOn (files_event d.warm at.piece.place at.piece.before (x ∷ ats) ss)) (sym with) (subst IsReadOn (sym event) more.on);
        given = ap (λ (ss : List FileScript). files_given d.warm at.piece.place at.piece.before (x ∷ ats) ss) with ∙ both;
        wrote = subst (λ (gs : List Frame). WroteBefore (playing d at.earlier) gs more.failed t) (sym all)
            (fails_both d at.earlier own given more.failed t m (plays_given d at frames (until_middle t m) (passes_wrote d at s text front t m next passed script)) more.wrote);
      }

  not_begun_core : IsNotBegun is.CoreFault → ⊥
  not_begun_core h = h

  pub failed_core : (at : SwitchAt) (ats : List ℕ) (texts taken : List (List ℕ)) (t : Traces) → Comes at.piece ats → length ats ≡ length texts → DoesInputs (switches d) at texts taken t is.CoreFault → Failed at ats texts taken t
  failed_core at ats texts [] t comes n (id, inl h) = let never : is.CoreFault ≡ is.Done = h.0 in absurd cc
  failed_core at ats texts [] t comes n (id, inr h) = absurd (not_begun_core h)
  failed_core at ats [] (front ∷ taken) t comes n h = absurd h
  failed_core at [] (text ∷ texts) (front ∷ taken) t comes n h = absurd (omega (arith, n))
  failed_core at (x ∷ ats) (text ∷ texts) (front ∷ taken) t comes n (inl h) =
      subst (λ (xs : List (List ℕ)). Failed at (x ∷ ats) (text ∷ texts) (front ∷ xs) t) (sym h.last) (fails_here at x ats comes h.ends.0 text front texts h.ends.1 t h.ends.2 h.ends.3)
  failed_core at (x ∷ ats) (text ∷ texts) (front ∷ taken) t comes n (inr h) =
      let next = h.0 in
      let m = h.1 in
      let passed = h.2 in
      let frames = passed.ends.0 in
      let s : FileScript = record { frames = frames; close = Marked End } in
      let there = next_is_there d at s text front t m next passed passed.ends.1.script in
      let more = failed_core (next_at at frames) ats texts taken (from_middle t m) (next_comes at.piece x ats frames comes) (omega (arith, n)) (subst (λ (y : SwitchAt). DoesInputs (switches d) y texts taken (from_middle t m) is.CoreFault) there h.3) in
      fails_on at x ats comes text front texts taken t m next passed more
