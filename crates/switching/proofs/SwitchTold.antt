-- What a call of `switch` did is told by the first event of its files.
use Rattle.std.proofs.Common.{◌≡◌, ℕ, List, [], ◌∷◌, length, Option, Some, None, refl, sym, ap, subst, ◌∙◌, arith, inl, inr}
use Rattle.core_iface.specs.Decoding.{Definitions}
use Rattle.au_stream.specs.Frames.{Frame}
use Rattle.au_stream.specs.Script.{Mark, End, IsScript}
use Rattle.au_stream.proofs.Marks.{one_script}
use Rattle.commands.specs.declared.outcome.Outcome.{Outcome}
use Rattle.commands.specs.declared.outcome.Outcome.TheVariants as is
use Rattle.commands.specs.Ending.{Traces, WroteAll}
use Rattle.commands.specs.OnInputs.{Middle, Passed, Stops, DoesInputs, until_middle, from_middle}
use Rattle.playing.specs.Playing.{playing}
use Rattle.joining.specs.Renditions.{asked_at}
use Rattle.joining.specs.Answers.{AreCutShort, IsReadOn}
use Rattle.joining.specs.Events.{Marked, Unread, FileScript, Event, NotRead, file_event, files_event, AreScripts}
use Rattle.joining.proofs.Events.{event_close}
use Rattle.joining.proofs.Told.{Says, IsOwn, Comes, next_comes, file_none, stopped, not_own}
use Rattle.switching.specs.Switching.{SwitchAt, given_at, switching, next_at}
use Rattle.switching.specs.CutShort.{file_unbroken, files_given}
use Rattle.switching.proofs.AsPlan.{unknown, taken_as_planned, ends_as_planned, taken_unbroken, stopped_behind}
use Rattle.switching.proofs.AsPlay.{plays_given, plays_both, plays_none}
use Rattle.switching.proofs.FileSteps.{switches, event_here, given_here, event_behind, given_behind, next_is_there, passes_none, passes_unbroken, passes_wrote}

module _ (d : Definitions) where
  -- What the walk says of the files from there on: their first event, and that the frames before it were played.
  pub record Walked (P : Option Event → Type 0) (at : SwitchAt) (ats : List ℕ) (scripts : List FileScript) (t : Traces) : Type 0 where
    pub says : P (files_event d.warm at.piece.place at.piece.before ats scripts)
    pub played : WroteAll (playing d at.earlier) (files_given d.warm at.piece.place at.piece.before ats scripts) t

  -- the first of the files
  module _ (at : SwitchAt) (x : ℕ) (ats : List ℕ) (comes : Comes at.piece (x ∷ ats)) (s : FileScript) (ss : List FileScript) where
    -- it ends the walk by that event
    ends_walk : (t : Traces) (P : Option Event → Type 0) (e : Event) (frames : List Frame) → file_event d.warm (asked_at at.piece) s ≡ Some e → P (Some e) → file_unbroken d.warm (asked_at at.piece) s ≡ frames
        → WroteAll (switching d at) frames t → Walked P at (x ∷ ats) (s ∷ ss) t
    ends_walk t P e frames is says unbroken wrote = record {
      says = subst P (sym (event_here d at x ats comes s ss e is)) says;
      played = subst (λ (gs : List Frame). WroteAll (playing d at.earlier) gs t) (sym (given_here d at x ats comes s ss e frames is unbroken)) (plays_given d at frames t wrote);
    }

    -- it stopped the command
    stops : (text : List ℕ) (mark : Mark) → s.close ≡ Marked mark → IsScript text s.frames mark → (t : Traces) (front : List ℕ) (taken : List (List ℕ)) (o : Outcome) → IsOwn o → Stops (switches d) at text front taken t o → Walked (Says o) at (x ∷ ats) (s ∷ ss) t
    stops text mark close script t front taken o own h =
        let why = stopped d at.piece s text mark close script unknown front o own h.stopped (ends_as_planned d at text front t o own h.stopped h.ends) in
        let there = stopped_behind d at s text mark script front t o own h.stopped h.ends in
        ends_walk t (Says o) why.event there.frames why.is why.says there.unbroken_are there.wrote

    -- it passed, and the walk goes on behind it
    module _ (text front : List ℕ) (t : Traces) (m : Middle) (next : SwitchAt) (passed : Passed (switches d) at text front t m next) (script : IsScript text s.frames End) (close : s.close ≡ Marked End) where
      walks_on : (P : Option Event → Type 0) → Walked P (next_at at s.frames) ats ss (from_middle t m) → Walked P at (x ∷ ats) (s ∷ ss) t
      walks_on P more =
          let none = passes_none d at s text front t m next passed script close in
          let unbroken = passes_unbroken d at s text front t m next passed script in
          let own = given_at at s.frames in
          let given = files_given d.warm (next_at at s.frames).piece.place (next_at at s.frames).piece.before ats ss in
          record {
            says = subst P (sym (event_behind d at x ats comes s ss none)) more.says;
            played = subst (λ (gs : List Frame). WroteAll (playing d at.earlier) gs t) (sym (given_behind d at x ats comes s ss none unbroken))
                (plays_both d at.earlier own given t m (plays_given d at s.frames (until_middle t m) (passes_wrote d at s text front t m next passed script)) more.played);
          }

  -- ---- all files

  pub walked : (at : SwitchAt) (ats : List ℕ) (texts taken : List (List ℕ)) (scripts : List FileScript) (t : Traces) (o : Outcome) → Comes at.piece ats → length ats ≡ length texts → AreScripts texts scripts → IsOwn o → DoesInputs (switches d) at texts taken t o
      → Walked (Says o) at ats scripts t
  walked at [] [] [] [] t o comes n are own (id, inl h) = record { says = says_done o h.0; played = plays_none d at.earlier t id }
    where
      says_done : (p : Outcome) → p ≡ is.Done → Says p None
      says_done p e = subst (λ (y : Outcome). Says y None) (sym e) refl
  walked at ats texts [] scripts t o comes n are own (id, inr h) = absurd (not_own d o h own)
  walked at [] (text ∷ texts) [] scripts t o comes n are own (id, inl h) = absurd (omega (arith, n))
  walked at (x ∷ ats) [] [] scripts t o comes n are own (id, inl h) = absurd (omega (arith, n))
  walked at (x ∷ ats) (text ∷ texts) [] scripts t o comes n are own (id, inl h) = absurd (let e : text ∷ texts ≡ [] = h.1 in cc)
  walked at [] [] [] (s ∷ ss) t o comes n are own (id, inl h) = absurd are
  walked at ats [] (front ∷ taken) scripts t o comes n are own h = absurd h
  walked at [] (text ∷ texts) (front ∷ taken) scripts t o comes n are own h = absurd (omega (arith, n))
  walked at (x ∷ ats) (text ∷ texts) (front ∷ taken) [] t o comes n are own h = absurd are
  walked at (x ∷ ats) (text ∷ texts) (front ∷ taken) (s ∷ ss) t o comes n are own (inl h) = stops at x ats comes s ss text are.0.0 are.0.1 are.0.2 t front taken o own h
  walked at (x ∷ ats) (text ∷ texts) (front ∷ taken) (s ∷ ss) t o comes n are own (inr h) =
      let next = h.0 in
      let m = h.1 in
      let passed = h.2 in
      let one = one_script text s.frames passed.ends.0 are.0.0 End are.0.2 passed.ends.1.script in
      let script = subst (λ (k : Mark). IsScript text s.frames k) one.1 are.0.2 in
      let close : s.close ≡ Marked End = are.0.1 ∙ ap (λ (k : Mark). Marked k) one.1 in
      let there = next_is_there d at s text front t m next passed script in
      let more = walked (next_at at s.frames) ats texts taken ss (from_middle t m) o (next_comes at.piece x ats s.frames comes) (omega (arith, n)) are.1 own (subst (λ (y : SwitchAt). DoesInputs (switches d) y texts taken (from_middle t m) o) there h.3) in
      walks_on at x ats comes s ss text front t m next passed script close (Says o) more

  -- ---- a read that failed

  pub cut_short : (at : SwitchAt) (ats : List ℕ) (texts taken : List (List ℕ)) (t : Traces) → Comes at.piece ats → length ats ≡ length texts → DoesInputs (switches d) at texts taken t is.ReadFault
      → (scripts : List FileScript) × AreCutShort texts taken scripts × Walked IsReadOn at ats scripts t
  cut_short at [] texts [] t comes n h = ([], refl, record { says = tt; played = plays_none d at.earlier t h.0 })
  cut_short at (x ∷ ats) texts [] t comes n h = ([], refl, record { says = tt; played = plays_none d at.earlier t h.0 })
  cut_short at ats [] (front ∷ taken) t comes n h = absurd h
  cut_short at [] (text ∷ texts) (front ∷ taken) t comes n h = absurd (omega (arith, n))
  cut_short at (x ∷ ats) (text ∷ texts) (front ∷ taken) t comes n (inl h) =
      let frames = h.ends.0 in
      let mark = h.ends.1 in
      let takes = h.ends.2.takes in
      let s : FileScript = record { frames = frames; close = Unread } in
      let event = event_close d.warm (asked_at at.piece) s NotRead (file_none d at.piece s frames refl (taken_as_planned d at [] frames takes)) refl in
      (s ∷ [], inr (h.last, refl, refl, (mark, h.ends.2.script, h.ends.3)), ends_walk at x ats comes s [] t IsReadOn NotRead frames event tt (taken_unbroken d at frames takes) h.ends.4)
  cut_short at (x ∷ ats) (text ∷ texts) (front ∷ taken) t comes n (inr h) =
      let next = h.0 in
      let m = h.1 in
      let passed = h.2 in
      let frames = passed.ends.0 in
      let script = passed.ends.1.script in
      let s : FileScript = record { frames = frames; close = Marked End } in
      let there = next_is_there d at s text front t m next passed script in
      let more = cut_short (next_at at frames) ats texts taken (from_middle t m) (next_comes at.piece x ats frames comes) (omega (arith, n)) (subst (λ (y : SwitchAt). DoesInputs (switches d) y texts taken (from_middle t m) is.ReadFault) there h.3) in
      (s ∷ more.0, inl ((End, refl, script), more.1), walks_on at x ats comes s more.0 text front t m next passed script refl IsReadOn more.2)
