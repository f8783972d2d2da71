-- The first of several files, of which a command on pieces takes frames.
use Rattle.std.proofs.Common.{◌≡◌, ℕ, ◌+◌, List, [], ◌∷◌, ◌++◌, Option, Some, None, refl, sym, ap, subst, ◌∙◌}
use Rattle.std.specs.Io.KnownBytes.{append_known}
use Rattle.std.specs.Prelude.{true}
use Rattle.std.proofs.lemmas.List.{append-nil}
use Rattle.usac_cfg.specs.declared.usac_config.UsacConfig.{UsacConfig}
use Rattle.timeline.specs.Plan.{first_position}
use Rattle.plans.specs.WholeStream.{stream_config}
use Rattle.splicer.specs.declared.asked.Asked.{Asked}
use Rattle.splicer.specs.Pieces.{asked}
use Rattle.core_iface.specs.Decoding.{Definitions}
use Rattle.au_stream.specs.Frames.{Frame}
use Rattle.au_stream.specs.Script.{End, IsScript}
use Rattle.au_stream.proofs.Marks.{one_script}
use Rattle.commands.specs.Commands.{TakesAll}
use Rattle.commands.specs.Ending.{Traces, WroteAll}
use Rattle.commands.specs.OnInputs.{Several, Middle, Passed, several, until_middle}
use Rattle.joining.specs.Renditions.{asked_at, next_place}
use Rattle.joining.specs.Events.{Marked, FileScript, Event, or_event, coded_of, file_event, files_event}
use Rattle.joining.proofs.SpliceEvents.{unless_none, unless_some}
use Rattle.joining.proofs.Told.{Comes, asked_is, next_there, event_on, file_passes}
use Rattle.switching.specs.Switching.{SwitchAt, given_at, switching, next_at}
use Rattle.switching.specs.CutShort.{file_unbroken, file_given, files_given}
use Rattle.switching.proofs.AsPlan.{taken_as_planned, taken_unbroken}

-- the frames of the files behind one, by where the next begins
given_on : (warm : UsacConfig → ℕ) (at : SwitchAt) (x : ℕ) (ats : List ℕ) (ss : List FileScript) (before : Option UsacConfig) → Comes at.piece (x ∷ ats)
    → files_given warm (next_place at.piece.place at.piece.positions) before ats ss ≡ files_given warm (at.piece.place + 1) before ats ss
given_on warm at x [] ss before h = refl
given_on warm at x (y ∷ ats) ss before h = ap (λ (k : ℕ). files_given warm k before (y ∷ ats) ss) (next_there at.piece.place at.piece.positions x y ats h)

module _ (d : Definitions) where
  abbrev pub switches : Several SwitchAt
  switches = several (switching d) next_at true

  -- ---- what the definitions say

  module _ (at : SwitchAt) (x : ℕ) (ats : List ℕ) (comes : Comes at.piece (x ∷ ats)) (s : FileScript) (ss : List FileScript) where
    abbrev a : Asked
    a = asked at.piece.place x (first_position ats) at.piece.before

    same : asked_at at.piece ≡ a
    same = asked_is at.piece x ats comes

    event_is : (o : Option Event) → file_event d.warm (asked_at at.piece) s ≡ o → file_event d.warm a s ≡ o
    event_is o is = ap (λ (b : Asked). file_event d.warm b s) (sym same) ∙ is

    given_is : (frames : List Frame) → file_unbroken d.warm (asked_at at.piece) s ≡ frames → file_given d.warm a s ≡ given_at at frames
    given_is frames is = ap (λ (b : Asked). file_given d.warm b s) (sym same) ∙ ap (λ (fs : List Frame). given_at at fs) is

    -- it has an event: nothing is given behind it
    pub event_here : (e : Event) → file_event d.warm (asked_at at.piece) s ≡ Some e → files_event d.warm at.piece.place at.piece.before (x ∷ ats) (s ∷ ss) ≡ Some e
    event_here e is =
        let later = files_event d.warm (at.piece.place + 1) (stream_config (coded_of s)) ats ss in
        ap (λ (o : Option Event). or_event o later) (event_is (Some e) is)

    pub given_here : (e : Event) (frames : List Frame) → file_event d.warm (asked_at at.piece) s ≡ Some e → file_unbroken d.warm (asked_at at.piece) s ≡ frames → files_given d.warm at.piece.place at.piece.before (x ∷ ats) (s ∷ ss) ≡ given_at at frames
    given_here e frames is unbroken =
        let more = files_given d.warm (at.piece.place + 1) (stream_config (coded_of s)) ats ss in
        ap (λ (gs : List Frame). file_given d.warm a s ++ gs) (unless_some (file_event d.warm a s) e more (event_is (Some e) is)) ∙ (append-nil (file_given d.warm a s) ∙ given_is frames unbroken)

    -- it has none: the files behind it are as they are there
    pub event_behind : file_event d.warm (asked_at at.piece) s ≡ None → files_event d.warm at.piece.place at.piece.before (x ∷ ats) (s ∷ ss) ≡ files_event d.warm (next_at at s.frames).piece.place (next_at at s.frames).piece.before ats ss
    event_behind none =
        let config = stream_config (coded_of s) in
        let events = files_event d.warm (at.piece.place + 1) config ats ss in
        ap (λ (o : Option Event). or_event o events) (event_is None none) ∙ sym (event_on d.warm at.piece x ats s.frames ss config comes)

    pub given_behind : file_event d.warm (asked_at at.piece) s ≡ None → file_unbroken d.warm (asked_at at.piece) s ≡ s.frames
        → files_given d.warm at.piece.place at.piece.before (x ∷ ats) (s ∷ ss) ≡ given_at at s.frames ++ files_given d.warm (next_at at s.frames).piece.place (next_at at s.frames).piece.before ats ss
    given_behind none unbroken =
        let config = stream_config (coded_of s) in
        let given = files_given d.warm (at.piece.place + 1) config ats ss in
        ap (λ (gs : List Frame). file_given d.warm a s ++ gs) (unless_none (file_event d.warm a s) given (event_is None none))
        ∙ (ap (λ (gs : List Frame). gs ++ given) (given_is s.frames unbroken) ∙ ap (λ (gs : List Frame). given_at at s.frames ++ gs) (sym (given_on d.warm at x ats ss config comes)))

  -- ---- a file that passed

  module _ (at : SwitchAt) (s : FileScript) (text front : List ℕ) (t : Traces) (m : Middle) (next : SwitchAt) (passed : Passed switches at text front t m next) (script : IsScript text s.frames End) where
    pub next_is_there : next ≡ next_at at s.frames
    next_is_there = passed.leads.2 ∙ ap (next_at at) (one_script text passed.leads.0 s.frames End End passed.leads.1.script script).0

    frames_are : s.frames ≡ passed.ends.0
    frames_are = (one_script text s.frames passed.ends.0 End End script passed.ends.1.script).0

    pub passes_none : s.close ≡ Marked End → file_event d.warm (asked_at at.piece) s ≡ None
    passes_none close = file_passes d at.piece s passed.ends.0 frames_are close (taken_as_planned d at [] passed.ends.0 passed.ends.1.takes) passed.ends.2.takes

    pub passes_unbroken : file_unbroken d.warm (asked_at at.piece) s ≡ s.frames
    passes_unbroken = taken_unbroken d at s.frames (subst (TakesAll (switching d at) []) (sym frames_are) passed.ends.1.takes)

    pub passes_wrote : WroteAll (switching d at) s.frames (until_middle t m)
    passes_wrote =
        let frames = passed.ends.0 in
        let closed = passed.ends.2 in
        let written = closed.written ∙ ap (append_known t.written_before) (ap (λ (xs : List ℕ). (switching d at).output frames ++ xs) closed.closes ∙ append-nil ((switching d at).output frames)) in
        let wrote : WroteAll (switching d at) frames (until_middle t m) = record { written = written; fed = closed.fed } in
        subst (λ (fs : List Frame). WroteAll (switching d at) fs (until_middle t m)) (sym frames_are) wrote
