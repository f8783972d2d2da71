-- What a call of `plan` did is told by the first event of its files.
use Rattle.std.proofs.Common.{◌≡◌, ℕ, zero, suc, ◌+◌, ◌<◌, List, [], ◌∷◌, ◌++◌, length, map, drop, Option, Some, None, Result, Ok, Err, Bool, true, false, refl, sym, ap, subst, ◌∙◌, arith, ◌⊎◌, inl, inr}
use Rattle.std.specs.Prelude.{◌≢◌, nat_lt, get_or, if◌then◌else◌}
use Rattle.std.specs.Io.KnownBytes.{append_known}
use Rattle.std.proofs.lemmas.List.{append_assoc, map-append, get_or-drop, length-drop}
use Rattle.std.proofs.lemmas.Bool.{lt-ltb}
use Rattle.usac_cfg.specs.declared.usac_config.UsacConfig.{UsacConfig}
use Rattle.timeline.specs.Plan.{first_position, next_position}
use Rattle.plans.specs.Coded.{Coded}
use Rattle.plans.specs.WholeStream.{stream_config}
use Rattle.splicer.specs.declared.asked.Asked.{Asked}
use Rattle.splicer.specs.declared.fault.SpliceFault.{SpliceFault}
use Rattle.splicer.specs.Pieces.{asked, fault_over}
use Rattle.splicer.specs.Runs.{RunValue, new_run, run_over, behind, end}
use Rattle.core_iface.specs.Decoding.{Definitions}
use Rattle.tool_text.specs.declared.refusal.Refusal.{Refusal}
use Rattle.tool_text.specs.declared.refusal.Within.TheVariants as inputs
use Rattle.tool_text.specs.RefusalText.{refusal_text}
use Rattle.au_stream.specs.Frames.{Frame}
use Rattle.au_stream.specs.Script.{Mark, End, TooLarge, IsScript}
use Rattle.au_stream.proofs.Marks.{one_script, same_frames}
use Rattle.commands.specs.declared.outcome.Outcome.{Outcome}
use Rattle.commands.specs.declared.outcome.Outcome.TheVariants as is
use Rattle.commands.specs.Commands.{TakesAll, TakesEnd}
use Rattle.commands.specs.Doing.{IsNotBegun}
use Rattle.commands.specs.Ending.{Traces, IsRefused, Passes, Ends, WroteClosed, refusal_of_mark}
use Rattle.commands.specs.OnInputs.{Several, Middle, Passed, Stops, DoesInputs, several, until_middle, from_middle}
use Rattle.commands.proofs.Going.{append-none}
use Rattle.playing.specs.FileAnswers.{WroteBytes}
use Rattle.playing.specs.Spliced.{coded}
use Rattle.joining.specs.Refusals.{refusal_of_splice}
use Rattle.joining.specs.Renditions.{PieceAt, position_at, asked_at, run_at, next_place, next_at}
use Rattle.joining.specs.Planning.{planning}
use Rattle.joining.specs.Events.{Marked, Unread, FileScript, Event, Rule, AtMark, NotRead, or_event, close_event, coded_of, file_event, file_line, files_event, files_lines, before_event, AreScripts}
use Rattle.joining.specs.Answers.{AreCutShort, IsReadOn}
use Rattle.joining.proofs.Events.{taken_none, next_breaks, end_is, event_rule, event_close, event_end, mark_event, line_is}

-- ---- how a command ended, by an event

pub record RefusedBy (words : List ℕ) (ev : Option Event) : Type 0 where
  pub piece : ℕ
  pub reason : Refusal
  pub words_are : words ≡ refusal_text (Some (inputs.Piece piece)) reason
  pub event : ((e : SpliceFault) × (ev ≡ Some (Rule piece e)) × (refusal_of_splice e ≡ Some reason)) ⊎ ((m : Mark) × (ev ≡ Some (AtMark piece m)) × (refusal_of_mark m ≡ Some reason))

-- the outcome by the files alone; out of memory and the faults of devices are told by none
abbrev pub Says : Outcome → Option Event → Type 0
Says is.Done ev = ev ≡ None
Says (is.Refused words) ev = RefusedBy words ev
Says is.ReadFault ev = ⊥
Says is.WriteFault ev = ⊥
Says is.CoreFault ev = ⊥
Says (is.Memory e) ev = ⊥
Says is.TooLarge ev = (k : ℕ) × (ev ≡ Some (AtMark k TooLarge))

abbrev pub IsOwn : Outcome → Type 0
IsOwn is.Done = Unit {0}
IsOwn (is.Refused words) = Unit {0}
IsOwn is.ReadFault = ⊥
IsOwn is.WriteFault = ⊥
IsOwn is.CoreFault = ⊥
IsOwn (is.Memory e) = ⊥
IsOwn is.TooLarge = Unit {0}

-- ---- the positions to come

-- the piece is at the first of these positions
abbrev pub Comes : PieceAt → List ℕ → Type 0
Comes at [] = Unit {0}
Comes at (x ∷ ats) = drop at.place at.positions ≡ x ∷ ats

never_ended : (v : RunValue) (fs : List Coded) → v.ended ≡ false → (run_over v fs).ended ≡ false
never_ended v [] h = h
never_ended v (f ∷ fs) h = never_ended (behind v f) fs h

pub going_at : (at : PieceAt) (frames : List Frame) → (run_at at frames).ended ≡ false
going_at at frames = never_ended (new_run (asked_at at)) (map coded frames) refl

drop_more : (k : ℕ) (xs : List ℕ) (x : ℕ) (ys : List ℕ) → drop k xs ≡ x ∷ ys → drop (suc k) xs ≡ ys
drop_more zero [] x ys h = absurd cc
drop_more zero (z ∷ xs) x ys h = cc
drop_more (suc k) [] x ys h = absurd cc
drop_more (suc k) (z ∷ xs) x ys h = drop_more k xs x ys h

position_is : (k : ℕ) (xs : List ℕ) (x : ℕ) (ys : List ℕ) → drop k xs ≡ x ∷ ys → position_at k xs ≡ x
position_is k xs x ys h =
    let e : k + 0 ≡ k = omega arith in
    ap (λ (i : ℕ). get_or xs i 0) (sym e) ∙ (sym (get_or-drop k xs 0 0) ∙ ap (λ (zs : List ℕ). get_or zs 0 0) h)

next_is : (k : ℕ) (xs : List ℕ) (x : ℕ) (ys : List ℕ) → drop k xs ≡ x ∷ ys → next_position k xs ≡ first_position ys
next_is k xs x ys h =
    let e : k + 1 ≡ suc k = omega arith in
    ap (λ (i : ℕ). first_position (drop i xs)) e ∙ ap first_position (drop_more k xs x ys h)

-- what is asked there
pub asked_is : (at : PieceAt) (x : ℕ) (ats : List ℕ) → Comes at (x ∷ ats) → asked_at at ≡ asked at.place x (first_position ats) at.before
asked_is at x ats h =
    ap (λ (n : ℕ). asked at.place n (next_position at.place at.positions) at.before) (position_is at.place at.positions x ats h)
    ∙ ap (λ (o : Option ℕ). asked at.place x o at.before) (next_is at.place at.positions x ats h)

-- another piece is behind it
pub next_there : (k : ℕ) (xs : List ℕ) (x y : ℕ) (ys : List ℕ) → drop k xs ≡ x ∷ y ∷ ys → next_place k xs ≡ k + 1
next_there k xs x y ys h =
    let long : length (drop k xs) ≡ length (x ∷ y ∷ ys) = ap (λ (zs : List ℕ). length zs) h in
    let left = length-drop k xs in
    let lt : nat_lt (k + 1) (length xs) ≡ true = lt-ltb (k + 1) (length xs) (omega (arith, long, left)) in
    ap (λ (b : Bool). if b then k + 1 else k) lt

pub next_comes : (at : PieceAt) (x : ℕ) (ats : List ℕ) (frames : List Frame) → Comes at (x ∷ ats) → Comes (next_at at frames) ats
next_comes at x [] frames h = tt
next_comes at x (y ∷ ats) frames h =
    let e : at.place + 1 ≡ suc at.place = omega arith in
    ap (λ (k : ℕ). drop k at.positions) (next_there at.place at.positions x y ats h ∙ e) ∙ drop_more at.place at.positions x (y ∷ ats) h

-- the event of the files behind one, by where the next begins
pub event_on : (warm : UsacConfig → ℕ) (at : PieceAt) (x : ℕ) (ats : List ℕ) (frames : List Frame) (ss : List FileScript) (before : Option UsacConfig) → Comes at (x ∷ ats)
    → files_event warm (next_place at.place at.positions) before ats ss ≡ files_event warm (at.place + 1) before ats ss
event_on warm at x [] frames ss before h = refl
event_on warm at x (y ∷ ats) frames ss before h = ap (λ (k : ℕ). files_event warm k before (y ∷ ats) ss) (next_there at.place at.positions x y ats h)

lines_on : (warm : UsacConfig → ℕ) (at : PieceAt) (x : ℕ) (ats : List ℕ) (frames : List Frame) (ss : List FileScript) (before : Option UsacConfig) → Comes at (x ∷ ats)
    → files_lines warm (next_place at.place at.positions) before ats ss ≡ files_lines warm (at.place + 1) before ats ss
lines_on warm at x [] frames ss before h = refl
lines_on warm at x (y ∷ ats) frames ss before h = ap (λ (k : ℕ). files_lines warm k before (y ∷ ats) ss) (next_there at.place at.positions x y ats h)

-- ---- written bytes

pub wrote_both : (w0 w1 w2 : Option (List ℕ)) (xs ys : List ℕ) → w1 ≡ append_known w0 xs → w2 ≡ append_known w1 ys → w2 ≡ append_known w0 (xs ++ ys)
wrote_both None w1 w2 xs ys a b = b ∙ ap (λ (w : Option (List ℕ)). append_known w ys) a
wrote_both (Some w) w1 w2 xs ys a b = b ∙ (ap (λ (u : Option (List ℕ)). append_known u ys) a ∙ ap (λ (z : List ℕ). let o : Option (List ℕ) = Some z in o) (append_assoc w xs ys))

-- ---- files

module _ (d : Definitions) where
  abbrev plans : Several PieceAt
  plans = several (planning d) next_at false

  -- What the walk says of the files from there on.
  pub record Walked (P : Option Event → Type 0) (at : PieceAt) (ats : List ℕ) (scripts : List FileScript) (t : Traces) : Type 0 where
    pub says : P (files_event d.warm at.place at.before ats scripts)
    pub wrote : WroteBytes t (files_lines d.warm at.place at.before ats scripts)

  -- the first file ends the walk by that event
  ends_walk : (at : PieceAt) (x : ℕ) (ats : List ℕ) (s : FileScript) (ss : List FileScript) (t : Traces) (P : Option Event → Type 0) (e : Event) → Comes at (x ∷ ats) → file_event d.warm (asked_at at) s ≡ Some e
      → P (Some e) → t.written_after ≡ append_known t.written_before [] → Walked P at (x ∷ ats) (s ∷ ss) t
  ends_walk at x ats s ss t P e comes is says written =
      let a = asked at.place x (first_position ats) at.before in
      let here : file_event d.warm a s ≡ Some e = ap (λ (b : Asked). file_event d.warm b s) (sym (asked_is at x ats comes)) ∙ is in
      let later = files_event d.warm (at.place + 1) (stream_config (coded_of s)) ats ss in
      record {
        says = subst P (sym (ap (λ (v : Option Event). or_event v later) here)) says;
        wrote = written ∙ ap (append_known t.written_before) (sym (ap (λ (v : Option Event). before_event v (file_line a s) (files_lines d.warm (at.place + 1) (stream_config (coded_of s)) ats ss)) here));
      }

  -- the first file passes, and the walk goes on behind it
  goes_on : (at : PieceAt) (x : ℕ) (ats : List ℕ) (s : FileScript) (ss : List FileScript) (t u : Traces) (P : Option Event → Type 0) (line : List ℕ) → Comes at (x ∷ ats) → file_event d.warm (asked_at at) s ≡ None → file_line (asked_at at) s ≡ line
      → u.written_before ≡ append_known t.written_before line → u.written_after ≡ t.written_after → Walked P (next_at at s.frames) ats ss u → Walked P at (x ∷ ats) (s ∷ ss) t
  goes_on at x ats s ss t u P line comes none told here after more =
      let a = asked at.place x (first_position ats) at.before in
      let config = stream_config (coded_of s) in
      let same = asked_is at x ats comes in
      let event : file_event d.warm a s ≡ None = ap (λ (b : Asked). file_event d.warm b s) (sym same) ∙ none in
      let line_here : file_line a s ≡ line = ap (λ (b : Asked). file_line b s) (sym same) ∙ told in
      let events = files_event d.warm (at.place + 1) config ats ss in
      let lines = files_lines d.warm (at.place + 1) config ats ss in
      record {
        says = subst P (event_on d.warm at x ats s.frames ss config comes ∙ sym (ap (λ (v : Option Event). or_event v events) event)) more.says;
        wrote = wrote_both t.written_before u.written_before t.written_after line lines here (sym after ∙ (more.wrote ∙ ap (append_known u.written_before) (lines_on d.warm at x ats s.frames ss config comes)))
            ∙ ap (append_known t.written_before) (sym (ap (λ (v : Option Event). before_event v (file_line a s) lines) event ∙ ap (λ (l : List ℕ). l ++ lines) line_here));
      }

  -- ---- one file

  -- the file ends the walk by this event
  pub record Stopped (at : PieceAt) (s : FileScript) (o : Outcome) : Type 0 where
    pub event : Event
    pub is : file_event d.warm (asked_at at) s ≡ Some event
    pub says : Says o (Some event)

  module _ (at : PieceAt) (s : FileScript) where
    -- no rule is broken
    pub file_none : (frames : List Frame) → s.frames ≡ frames → TakesAll (planning d at) [] frames → fault_over d.warm (new_run (asked_at at)) (coded_of s) ≡ None
    file_none frames is takes = ap (λ (fs : List Frame). fault_over d.warm (new_run (asked_at at)) (map coded fs)) is ∙ taken_none d at frames takes

    -- what is known at its end
    end_there : (frames : List Frame) → s.frames ≡ frames → end (run_over (new_run (asked_at at)) (coded_of s)) ≡ end (run_at at frames)
    end_there frames is = ap (λ (fs : List Frame). end (run_over (new_run (asked_at at)) (map coded fs))) is

    -- a file that passes
    pub file_passes : (frames : List Frame) → s.frames ≡ frames → s.close ≡ Marked End → TakesAll (planning d at) [] frames → TakesEnd (planning d at) frames → file_event d.warm (asked_at at) s ≡ None
    file_passes frames is ends takes end =
        let p = end_is d at frames (going_at at frames) end in
        event_end d.warm (asked_at at) s (Ok p.0) (file_none frames is takes) ends (end_there frames is ∙ p.1)

    module _ (text : List ℕ) (mark : Mark) (close : s.close ≡ Marked mark) (script : IsScript text s.frames mark) (t : Traces) where
      -- it is refused
      refused : (frames : List Frame) (r : Refusal) (words : List ℕ) → IsRefused (planning d at) text frames r t → words ≡ refusal_text (Some (inputs.Piece at.place)) r → Stopped at s (is.Refused words)
      refused frames r words (inl h) same =
          let broken = h.refuses in
          let all : s.frames ≡ frames ++ h.frame ∷ h.later = same_frames text s.frames (frames ++ h.frame ∷ h.later) mark script h.of_file in
          let coded_is : coded_of s ≡ map coded frames ++ map coded (h.frame ∷ h.later) = ap (λ (fs : List Frame). map coded fs) all ∙ map-append coded frames (h.frame ∷ h.later) in
          let over : fault_over d.warm (new_run (asked_at at)) (coded_of s) ≡ Some broken.0 = ap (fault_over d.warm (new_run (asked_at at))) coded_is ∙ next_breaks d at frames h.frame h.later r broken.0 h.takes broken.1 in
          record {
            event = Rule at.place broken.0;
            is = event_rule d.warm (asked_at at) s broken.0 over;
            says = record { piece = at.place; reason = r; words_are = same; event = inl (broken.0, refl, broken.2) };
          }
      refused frames r words (inr (inl h)) same =
          let one = one_script text s.frames frames mark h.mark script h.script in
          let why : refusal_of_mark mark ≡ Some r = ap refusal_of_mark one.1 ∙ h.refuses in
          let event : close_event at.place s.close ≡ Some (AtMark at.place mark) = ap (close_event at.place) close ∙ mark_event at.place mark r why in
          record {
            event = AtMark at.place mark;
            is = event_close d.warm (asked_at at) s (AtMark at.place mark) (file_none frames one.0 h.takes) event;
            says = record { piece = at.place; reason = r; words_are = same; event = inr (mark, refl, why) };
          }
      refused frames r words (inr (inr h)) same =
          let one = one_script text s.frames frames mark End script h.passes.script in
          let lacks = h.refuses in
          let ends : s.close ≡ Marked End = close ∙ ap (λ (m : Mark). Marked m) one.1 in
          record {
            event = Rule at.place lacks.0;
            is = event_end d.warm (asked_at at) s (Err lacks.0) (file_none frames one.0 h.passes.takes) ends (end_there frames one.0 ∙ lacks.1);
            says = record { piece = at.place; reason = r; words_are = same; event = inl (lacks.0, refl, lacks.2) };
          }

      -- it has too many bytes
      too_large : (frames : List Frame) → Passes (planning d at) text frames TooLarge → Stopped at s is.TooLarge
      too_large frames h =
          let one = one_script text s.frames frames mark TooLarge script h.script in
          let event : close_event at.place s.close ≡ Some (AtMark at.place TooLarge) = ap (close_event at.place) (close ∙ ap (λ (m : Mark). Marked m) one.1) in
          record {
            event = AtMark at.place TooLarge;
            is = event_close d.warm (asked_at at) s (AtMark at.place TooLarge) (file_none frames one.0 h.takes) event;
            says = (at.place, refl);
          }

      pub stopped : (front : List ℕ) (o : Outcome) → IsOwn o → o ≢ is.Done → Ends (planning d at) text front t o → Stopped at s o
      stopped front is.Done own not h = absurd (not refl)
      stopped front (is.Refused words) own not h = refused h.0 h.1 words h.2 h.3
      stopped front is.ReadFault own not h = absurd own
      stopped front is.WriteFault own not h = absurd own
      stopped front is.CoreFault own not h = absurd own
      stopped front (is.Memory e) own not h = absurd own
      stopped front is.TooLarge own not h = too_large h.0 h.1

  -- nothing is written of a piece that is not told
  untold : (at : PieceAt) (text front : List ℕ) (t : Traces) (o : Outcome) → IsOwn o → o ≢ is.Done → Ends (planning d at) text front t o → t.written_after ≡ append_known t.written_before []
  untold at text front t is.Done own not h = absurd (not refl)
  untold at text front t (is.Refused words) own not (frames, r, inl h, same) = h.wrote.written
  untold at text front t (is.Refused words) own not (frames, r, inr (inl h), same) = h.wrote.written
  untold at text front t (is.Refused words) own not (frames, r, inr (inr h), same) = h.wrote.written
  untold at text front t is.ReadFault own not h = absurd own
  untold at text front t is.WriteFault own not h = absurd own
  untold at text front t is.CoreFault own not h = absurd own
  untold at text front t (is.Memory e) own not h = absurd own
  untold at text front t is.TooLarge own not h = h.2.written

  stops : (at : PieceAt) (x : ℕ) (ats : List ℕ) (comes : Comes at (x ∷ ats)) (s : FileScript) (ss : List FileScript) (text : List ℕ) (mark : Mark) → s.close ≡ Marked mark → IsScript text s.frames mark
      → (t : Traces) (front : List ℕ) (taken : List (List ℕ)) (o : Outcome) → IsOwn o → Stops plans at text front taken t o → Walked (Says o) at (x ∷ ats) (s ∷ ss) t
  stops at x ats comes s ss text mark close script t front taken o own h =
      let why = stopped at s text mark close script t front o own h.stopped h.ends in
      ends_walk at x ats s ss t (Says o) why.event comes why.is why.says (untold at text front t o own h.stopped h.ends)

  -- a file that passed, and its line
  module _ (at : PieceAt) (x : ℕ) (ats : List ℕ) (comes : Comes at (x ∷ ats)) (s : FileScript) (ss : List FileScript) (text front : List ℕ) (t : Traces) (m : Middle) (next : PieceAt) (passed : Passed plans at text front t m next) (script : IsScript text s.frames End) (close : s.close ≡ Marked End) where
    frames_are : s.frames ≡ passed.ends.0
    frames_are = (one_script text s.frames passed.ends.0 End End script passed.ends.1.script).0

    next_is_there : next ≡ next_at at s.frames
    next_is_there = passed.leads.2 ∙ ap (next_at at) (one_script text passed.leads.0 s.frames End End passed.leads.1.script script).0

    walks_on : (P : Option Event → Type 0) → Walked P (next_at at s.frames) ats ss (from_middle t m) → Walked P at (x ∷ ats) (s ∷ ss) t
    walks_on P more =
        let ends = passed.ends in
        let closed = ends.2 in
        let none = file_passes at s ends.0 frames_are close ends.1.takes closed.takes in
        let line : file_line (asked_at at) s ≡ closed.closing = ap (λ (fs : List Frame). file_line (asked_at at) (record { frames = fs; close = s.close })) frames_are ∙ line_is at ends.0 s.close closed.closing closed.closes in
        goes_on at x ats s ss t (from_middle t m) P closed.closing comes none line closed.written refl more

  -- ---- all files

  pub idle : (t : Traces) → t.written_after ≡ t.written_before → t.written_after ≡ append_known t.written_before []
  idle t e = e ∙ append-none t.written_before

  pub not_own : (o : Outcome) → IsNotBegun o → IsOwn o → ⊥
  not_own is.Done n own = n
  not_own (is.Refused words) n own = n
  not_own is.ReadFault n own = own
  not_own is.WriteFault n own = n
  not_own is.CoreFault n own = n
  not_own (is.Memory e) n own = own
  not_own is.TooLarge n own = n

  pub walked : (at : PieceAt) (ats : List ℕ) (texts taken : List (List ℕ)) (scripts : List FileScript) (t : Traces) (o : Outcome) → Comes at ats → length ats ≡ length texts → AreScripts texts scripts → IsOwn o → DoesInputs plans at texts taken t o → Walked (Says o) at ats scripts t
  walked at [] [] [] [] t o comes n are own (id, inl h) = record { says = says_done o h.0; wrote = idle t id.written }
    where
      says_done : (p : Outcome) → p ≡ is.Done → Says p None
      says_done p e = subst (λ (y : Outcome). Says y None) (sym e) refl
  walked at ats texts [] scripts t o comes n are own (id, inr h) = absurd (not_own o h own)
  walked at [] (text ∷ texts) [] scripts t o comes n are own (id, inl h) = absurd (omega (arith, n))
  walked at (x ∷ ats) [] [] scripts t o comes n are own (id, inl h) = absurd (omega (arith, n))
  walked at (x ∷ ats) (text ∷ texts) [] scripts t o comes n are own (id, inl h) = absurd (let e : text ∷ texts ≡ [] = h.1 in cc)
  walked at [] [] [] (s ∷ ss) t o comes n are own (id, inl h) = absurd are
  walked at ats [] (front ∷ taken) scripts t o comes n are own h = absurd h
  walked at [] (text ∷ texts) (front ∷ taken) scripts t o comes n are own h = absurd (omega (arith, n))
  walked at (x ∷ ats) (text ∷ texts) (front ∷ taken) [] t o comes n are own h = absurd are
  walked at (x ∷ ats) (text ∷ texts) (front ∷ taken) (s ∷ ss) t o comes n are own (inl h) = stops at x ats comes s ss text are.0.0 are.0.1 are.0.2 t front taken o own h
  walked at (x ∷ ats) (text ∷ texts) (front ∷ taken) (s ∷ ss) t o comes n are own (inr h) =
      let next = h.0 in
      let m = h.1 in
      let passed = h.2 in
      let one = one_script text s.frames passed.ends.0 are.0.0 End are.0.2 passed.ends.1.script in
      let script = subst (λ (k : Mark). IsScript text s.frames k) one.1 are.0.2 in
      let close : s.close ≡ Marked End = are.0.1 ∙ ap (λ (k : Mark). Marked k) one.1 in
      let there = next_is_there at x ats comes s ss text front t m next passed script close in
      let more = walked (next_at at s.frames) ats texts taken ss (from_middle t m) o (next_comes at x ats s.frames comes) (omega (arith, n)) are.1 own (subst (λ (y : PieceAt). DoesInputs plans y texts taken (from_middle t m) o) there h.3) in
      walks_on at x ats comes s ss text front t m next passed script close (Says o) more

  -- ---- a read that failed

  read_none : (at : PieceAt) (ats : List ℕ) (t : Traces) → t.written_after ≡ t.written_before → Walked IsReadOn at ats [] t
  read_none at [] t same = record { says = tt; wrote = idle t same }
  read_none at (x ∷ ats) t same = record { says = tt; wrote = idle t same }

  pub cut_short : (at : PieceAt) (ats : List ℕ) (texts taken : List (List ℕ)) (t : Traces) → Comes at ats → length ats ≡ length texts → DoesInputs plans at texts taken t is.ReadFault
      → (scripts : List FileScript) × AreCutShort texts taken scripts × Walked IsReadOn at ats scripts t
  cut_short at ats texts [] t comes n h = ([], refl, read_none at ats t (let id = h.0 in id.written))
  cut_short at ats [] (front ∷ taken) t comes n h = absurd h
  cut_short at [] (text ∷ texts) (front ∷ taken) t comes n h = absurd (omega (arith, n))
  cut_short at (x ∷ ats) (text ∷ texts) (front ∷ taken) t comes n (inl h) =
      let frames = h.ends.0 in
      let mark = h.ends.1 in
      let s : FileScript = record { frames = frames; close = Unread } in
      let event = event_close d.warm (asked_at at) s NotRead (file_none at s frames refl h.ends.2.takes) refl in
      (s ∷ [], inr (h.last, refl, refl, (mark, h.ends.2.script, h.ends.3)), ends_walk at x ats s [] t IsReadOn NotRead comes event tt h.ends.4.written)
  cut_short at (x ∷ ats) (text ∷ texts) (front ∷ taken) t comes n (inr h) =
      let next = h.0 in
      let m = h.1 in
      let passed = h.2 in
      let frames = passed.ends.0 in
      let script = passed.ends.1.script in
      let s : FileScript = record { frames = frames; close = Marked End } in
      let there = next_is_there at x ats comes s [] text front t m next passed script refl in
      let more = cut_short (next_at at frames) ats texts taken (from_middle t m) (next_comes at x ats frames comes) (omega (arith, n)) (subst (λ (y : PieceAt). DoesInputs plans y texts taken (from_middle t m) is.ReadFault) there h.3) in
      (s ∷ more.0, inl ((End, refl, script), more.1), walks_on at x ats comes s more.0 text front t m next passed script refl IsReadOn more.2)
