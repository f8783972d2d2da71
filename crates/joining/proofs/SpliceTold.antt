-- What a call of `splice` did is told by the first stop of its files.
use Rattle.std.proofs.Common.{◌≡◌, ℕ, ◌+◌, List, [], ◌∷◌, ◌++◌, length, map, Option, Some, None, Ok, Err, false, refl, sym, ap, subst, ◌∙◌, arith, inl, inr}
use Rattle.std.specs.Io.KnownBytes.{append_known}
use Rattle.std.proofs.lemmas.List.{append-nil}
use Rattle.usac_cfg.specs.declared.usac_config.UsacConfig.{UsacConfig}
use Rattle.timeline.specs.Plan.{first_position}
use Rattle.plans.specs.WholeStream.{stream_config}
use Rattle.splicer.specs.declared.asked.Asked.{Asked}
use Rattle.splicer.specs.Pieces.{asked}
use Rattle.splicer.specs.Runs.{new_run, run_over, end}
use Rattle.core_iface.specs.Decoding.{Definitions}
use Rattle.tool_text.specs.declared.refusal.Refusal.{Refusal}
use Rattle.tool_text.specs.declared.refusal.Within.TheVariants as inputs
use Rattle.tool_text.specs.RefusalText.{refusal_text}
use Rattle.au_stream.specs.Canonical.{Handed, bytes_of_handed}
use Rattle.au_stream.specs.Frames.{Frame}
use Rattle.au_stream.specs.Script.{Mark, End, TooLarge, IsScript}
use Rattle.au_stream.proofs.Marks.{one_script, same_frames}
use Rattle.commands.specs.declared.outcome.Outcome.{Outcome}
use Rattle.commands.specs.declared.outcome.Outcome.TheVariants as is
use Rattle.commands.specs.Commands.{TakesAll, TakesEnd}
use Rattle.commands.specs.Ending.{Traces, IsRefused, Passes, refusal_of_mark}
use Rattle.commands.specs.OnInputs.{Several, Middle, Passed, Stops, DoesInputs, several, from_middle}
use Rattle.playing.specs.FileAnswers.{WroteBytes}
use Rattle.playing.specs.Spliced.{coded}
use Rattle.joining.specs.Refusals.{refusal_of_splice}
use Rattle.joining.specs.Renditions.{PieceAt, asked_at, run_at, next_place, next_at}
use Rattle.joining.specs.Events.{Marked, Unread, FileScript, Rule, AtMark, NotRead, close_event, coded_of, AreScripts}
use Rattle.joining.specs.Answers.{AreCutShort}
use Rattle.joining.specs.Splicing.{refusal_of_halt, handed_over, spliced_bytes, splicing}
use Rattle.joining.specs.SpliceEvents.{Stop, AtFrame, Behind, or_stop, halt_over, frames_before, file_stop, file_handed, files_stop, files_handed}
use Rattle.joining.specs.SpliceAnswers.{IsReadTo}
use Rattle.joining.proofs.Events.{mark_event}
use Rattle.joining.proofs.SpliceSteps.{bytes_append}
use Rattle.joining.proofs.SpliceEvents.{taken_halt, taken_front, next_halt, next_front, splice_end_is, stop_frame, stop_close, stop_end, unless_none, unless_some}
use Rattle.joining.proofs.Told.{IsOwn, Comes, going_at, next_comes, asked_is, next_there, wrote_both, idle, not_own}

-- ---- how a command ended, by a stop

-- why it was refused: a frame, a rule behind the frames, or a mark
abbrev pub IsReason : ℕ → Refusal → Stop → Type 0
IsReason k r (AtFrame piece halt) = (piece ≡ k) × (refusal_of_halt halt ≡ Some r)
IsReason k r (Behind (Rule piece fault)) = (piece ≡ k) × (refusal_of_splice fault ≡ Some r)
IsReason k r (Behind (AtMark piece mark)) = (piece ≡ k) × (refusal_of_mark mark ≡ Some r)
IsReason k r (Behind NotRead) = ⊥

pub record StoppedBy (words : List ℕ) (stop : Option Stop) : Type 0 where
  pub piece : ℕ
  pub reason : Refusal
  pub words_are : words ≡ refusal_text (Some (inputs.Piece piece)) reason
  pub by : Stop
  pub is : stop ≡ Some by
  pub why : IsReason piece reason by

-- the outcome by the files alone; out of memory and the faults of devices are told by none
abbrev pub SaysStop : Outcome → Option Stop → Type 0
SaysStop is.Done stop = stop ≡ None
SaysStop (is.Refused words) stop = StoppedBy words stop
SaysStop is.ReadFault stop = ⊥
SaysStop is.WriteFault stop = ⊥
SaysStop is.CoreFault stop = ⊥
SaysStop (is.Memory e) stop = ⊥
SaysStop is.TooLarge stop = (k : ℕ) × (stop ≡ Some (Behind (AtMark k TooLarge)))

-- ---- the files behind one, by where the next begins

stop_on : (warm : UsacConfig → ℕ) (at : PieceAt) (x : ℕ) (ats : List ℕ) (ss : List FileScript) (before : Option UsacConfig) → Comes at (x ∷ ats)
    → files_stop warm (next_place at.place at.positions) before ats ss ≡ files_stop warm (at.place + 1) before ats ss
stop_on warm at x [] ss before h = refl
stop_on warm at x (y ∷ ats) ss before h = ap (λ (k : ℕ). files_stop warm k before (y ∷ ats) ss) (next_there at.place at.positions x y ats h)

handed_on : (warm : UsacConfig → ℕ) (at : PieceAt) (x : ℕ) (ats : List ℕ) (ss : List FileScript) (before : Option UsacConfig) → Comes at (x ∷ ats)
    → files_handed warm (next_place at.place at.positions) before ats ss ≡ files_handed warm (at.place + 1) before ats ss
handed_on warm at x [] ss before h = refl
handed_on warm at x (y ∷ ats) ss before h = ap (λ (k : ℕ). files_handed warm k before (y ∷ ats) ss) (next_there at.place at.positions x y ats h)

wrote_plain : (w0 w1 : Option (List ℕ)) (xs : List ℕ) → w1 ≡ append_known w0 (xs ++ []) → w1 ≡ append_known w0 xs
wrote_plain w0 w1 xs e = e ∙ ap (append_known w0) (append-nil xs)

-- ---- files

module _ (d : Definitions) where
  abbrev splices : Several PieceAt
  splices = several (splicing d) next_at false

  -- What the walk says of the files from there on.
  pub record Walked (P : Option Stop → Type 0) (at : PieceAt) (ats : List ℕ) (scripts : List FileScript) (t : Traces) : Type 0 where
    pub says : P (files_stop d.warm at.place at.before ats scripts)
    pub wrote : WroteBytes t (bytes_of_handed (files_handed d.warm at.place at.before ats scripts))

  -- the first file ends the walk by that stop
  ends_walk : (at : PieceAt) (x : ℕ) (ats : List ℕ) (s : FileScript) (ss : List FileScript) (t : Traces) (P : Option Stop → Type 0) (e : Stop) (frames : List Frame) → Comes at (x ∷ ats) → file_stop d.warm (asked_at at) s ≡ Some e
      → P (Some e) → frames_before d.warm (new_run (asked_at at)) s.frames ≡ frames → WroteBytes t (spliced_bytes at frames) → Walked P at (x ∷ ats) (s ∷ ss) t
  ends_walk at x ats s ss t P e frames comes is says front written =
      let a = asked at.place x (first_position ats) at.before in
      let same = asked_is at x ats comes in
      let here : file_stop d.warm a s ≡ Some e = ap (λ (b : Asked). file_stop d.warm b s) (sym same) ∙ is in
      let later = files_stop d.warm (at.place + 1) (stream_config (coded_of s)) ats ss in
      let handed = files_handed d.warm (at.place + 1) (stream_config (coded_of s)) ats ss in
      let mine : file_handed d.warm a s ≡ handed_over (new_run (asked_at at)) frames = ap (λ (b : Asked). file_handed d.warm b s) (sym same) ∙ ap (handed_over (new_run (asked_at at))) front in
      let all : files_handed d.warm at.place at.before (x ∷ ats) (s ∷ ss) ≡ handed_over (new_run (asked_at at)) frames =
      ap (λ (hs : List Handed). file_handed d.warm a s ++ hs) (unless_some (file_stop d.warm a s) e handed here) ∙ (append-nil (file_handed d.warm a s) ∙ mine) in
      record {
        says = subst P (sym (ap (λ (v : Option Stop). or_stop v later) here)) says;
        wrote = written ∙ ap (λ (hs : List Handed). append_known t.written_before (bytes_of_handed hs)) (sym all);
      }

  -- the first file passes, and the walk goes on behind it
  goes_on : (at : PieceAt) (x : ℕ) (ats : List ℕ) (s : FileScript) (ss : List FileScript) (t u : Traces) (P : Option Stop → Type 0) → Comes at (x ∷ ats) → file_stop d.warm (asked_at at) s ≡ None
      → frames_before d.warm (new_run (asked_at at)) s.frames ≡ s.frames → u.written_before ≡ append_known t.written_before (spliced_bytes at s.frames) → u.written_after ≡ t.written_after → Walked P (next_at at s.frames) ats ss u
      → Walked P at (x ∷ ats) (s ∷ ss) t
  goes_on at x ats s ss t u P comes none front here after more =
      let a = asked at.place x (first_position ats) at.before in
      let config = stream_config (coded_of s) in
      let same = asked_is at x ats comes in
      let stop : file_stop d.warm a s ≡ None = ap (λ (b : Asked). file_stop d.warm b s) (sym same) ∙ none in
      let stops = files_stop d.warm (at.place + 1) config ats ss in
      let handed = files_handed d.warm (at.place + 1) config ats ss in
      let own = handed_over (new_run (asked_at at)) s.frames in
      let mine : file_handed d.warm a s ≡ own = ap (λ (b : Asked). file_handed d.warm b s) (sym same) ∙ ap (handed_over (new_run (asked_at at))) front in
      let all : files_handed d.warm at.place at.before (x ∷ ats) (s ∷ ss) ≡ own ++ handed =
      ap (λ (hs : List Handed). file_handed d.warm a s ++ hs) (unless_none (file_stop d.warm a s) handed stop) ∙ ap (λ (hs : List Handed). hs ++ handed) mine in
      let later : u.written_after ≡ append_known u.written_before (bytes_of_handed handed) = more.wrote ∙ ap (λ (hs : List Handed). append_known u.written_before (bytes_of_handed hs)) (handed_on d.warm at x ats ss config comes) in
      record {
        says = subst P (stop_on d.warm at x ats ss config comes ∙ sym (ap (λ (v : Option Stop). or_stop v stops) stop)) more.says;
        wrote = wrote_both t.written_before u.written_before t.written_after (spliced_bytes at s.frames) (bytes_of_handed handed) here (sym after ∙ later)
            ∙ ap (append_known t.written_before) (sym (bytes_append own handed) ∙ ap bytes_of_handed (sym all));
      }

  -- ---- one file

  module _ (at : PieceAt) (x : ℕ) (ats : List ℕ) (comes : Comes at (x ∷ ats)) (s : FileScript) where
    -- no frame is refused
    file_none : (frames : List Frame) → s.frames ≡ frames → TakesAll (splicing d at) [] frames → halt_over d.warm (new_run (asked_at at)) s.frames ≡ None
    file_none frames is takes = ap (halt_over d.warm (new_run (asked_at at))) is ∙ taken_halt d at frames takes

    file_front : (frames : List Frame) → s.frames ≡ frames → TakesAll (splicing d at) [] frames → frames_before d.warm (new_run (asked_at at)) s.frames ≡ frames
    file_front frames is takes = ap (frames_before d.warm (new_run (asked_at at))) is ∙ taken_front d at frames takes

    -- what is known at its end
    end_there : (frames : List Frame) → s.frames ≡ frames → end (run_over (new_run (asked_at at)) (coded_of s)) ≡ end (run_at at frames)
    end_there frames is = ap (λ (fs : List Frame). end (run_over (new_run (asked_at at)) (map coded fs))) is

    -- a file that passes
    file_passes : (frames : List Frame) → s.frames ≡ frames → s.close ≡ Marked End → TakesAll (splicing d at) [] frames → TakesEnd (splicing d at) frames → file_stop d.warm (asked_at at) s ≡ None
    file_passes frames is ends takes end =
        let p = splice_end_is d at frames (going_at at frames) end in
        stop_end d.warm (asked_at at) s (Ok p.0) (file_none frames is takes) ends (end_there frames is ∙ p.1)

    module _ (text : List ℕ) (mark : Mark) (close : s.close ≡ Marked mark) (script : IsScript text s.frames mark) (ss : List FileScript) (t : Traces) where
      -- it is refused
      refused : (frames : List Frame) (r : Refusal) (words : List ℕ) → IsRefused (splicing d at) text frames r t → words ≡ refusal_text (Some (inputs.Piece at.place)) r → Walked (SaysStop (is.Refused words)) at (x ∷ ats) (s ∷ ss) t
      refused frames r words (inl h) same =
          let halts = h.refuses in
          let all : s.frames ≡ frames ++ h.frame ∷ h.later = same_frames text s.frames (frames ++ h.frame ∷ h.later) mark script h.of_file in
          let over : halt_over d.warm (new_run (asked_at at)) s.frames ≡ Some halts.0 = ap (halt_over d.warm (new_run (asked_at at))) all ∙ next_halt d at frames h.frame h.later halts.0 h.takes halts.1 in
          let front : frames_before d.warm (new_run (asked_at at)) s.frames ≡ frames = ap (frames_before d.warm (new_run (asked_at at))) all ∙ next_front d at frames h.frame h.later halts.0 h.takes halts.1 in
          ends_walk at x ats s ss t (SaysStop (is.Refused words)) (AtFrame at.place halts.0) frames comes (stop_frame d.warm (asked_at at) s halts.0 over)
          (record { piece = at.place; reason = r; words_are = same; by = AtFrame at.place halts.0; is = refl; why = (refl, halts.2) }) front (wrote_plain t.written_before t.written_after (spliced_bytes at frames) h.wrote.written)
      refused frames r words (inr (inl h)) same =
          let one = one_script text s.frames frames mark h.mark script h.script in
          let why : refusal_of_mark mark ≡ Some r = ap refusal_of_mark one.1 ∙ h.refuses in
          let event : close_event at.place s.close ≡ Some (AtMark at.place mark) = ap (close_event at.place) close ∙ mark_event at.place mark r why in
          ends_walk at x ats s ss t (SaysStop (is.Refused words)) (Behind (AtMark at.place mark)) frames comes (stop_close d.warm (asked_at at) s (AtMark at.place mark) (file_none frames one.0 h.takes) event)
          (record { piece = at.place; reason = r; words_are = same; by = Behind (AtMark at.place mark); is = refl; why = (refl, why) }) (file_front frames one.0 h.takes) h.wrote.written
      refused frames r words (inr (inr h)) same =
          let one = one_script text s.frames frames mark End script h.passes.script in
          let lacks = h.refuses in
          let ends : s.close ≡ Marked End = close ∙ ap (λ (m : Mark). Marked m) one.1 in
          let stop = stop_end d.warm (asked_at at) s (Err lacks.0) (file_none frames one.0 h.passes.takes) ends (end_there frames one.0 ∙ lacks.1) in
          ends_walk at x ats s ss t (SaysStop (is.Refused words)) (Behind (Rule at.place lacks.0)) frames comes stop
          (record { piece = at.place; reason = r; words_are = same; by = Behind (Rule at.place lacks.0); is = refl; why = (refl, lacks.2) }) (file_front frames one.0 h.passes.takes) h.wrote.written

      -- it has too many bytes
      too_large : (frames : List Frame) → Passes (splicing d at) text frames TooLarge → WroteBytes t (spliced_bytes at frames) → Walked (SaysStop is.TooLarge) at (x ∷ ats) (s ∷ ss) t
      too_large frames h written =
          let one = one_script text s.frames frames mark TooLarge script h.script in
          let event : close_event at.place s.close ≡ Some (AtMark at.place TooLarge) = ap (close_event at.place) (close ∙ ap (λ (m : Mark). Marked m) one.1) in
          ends_walk at x ats s ss t (SaysStop is.TooLarge) (Behind (AtMark at.place TooLarge)) frames comes (stop_close d.warm (asked_at at) s (AtMark at.place TooLarge) (file_none frames one.0 h.takes) event)
          (at.place, refl) (file_front frames one.0 h.takes) written

      stops : (front : List ℕ) (taken : List (List ℕ)) (o : Outcome) → IsOwn o → Stops splices at text front taken t o → Walked (SaysStop o) at (x ∷ ats) (s ∷ ss) t
      stops front taken is.Done own h = absurd (h.stopped refl)
      stops front taken (is.Refused words) own h = refused h.ends.0 h.ends.1 words h.ends.2 h.ends.3
      stops front taken is.ReadFault own h = absurd own
      stops front taken is.WriteFault own h = absurd own
      stops front taken is.CoreFault own h = absurd own
      stops front taken (is.Memory e) own h = absurd own
      stops front taken is.TooLarge own h = too_large h.ends.0 h.ends.1 h.ends.2.written

  -- a file that passed, and its frames
  module _ (at : PieceAt) (x : ℕ) (ats : List ℕ) (comes : Comes at (x ∷ ats)) (s : FileScript) (ss : List FileScript) (text front : List ℕ) (t : Traces) (m : Middle) (next : PieceAt) (passed : Passed splices at text front t m next) (script : IsScript text s.frames End) (close : s.close ≡ Marked End) where
    frames_are : s.frames ≡ passed.ends.0
    frames_are = (one_script text s.frames passed.ends.0 End End script passed.ends.1.script).0

    next_is_there : next ≡ next_at at s.frames
    next_is_there = passed.leads.2 ∙ ap (next_at at) (one_script text passed.leads.0 s.frames End End passed.leads.1.script script).0

    walks_on : (P : Option Stop → Type 0) → Walked P (next_at at s.frames) ats ss (from_middle t m) → Walked P at (x ∷ ats) (s ∷ ss) t
    walks_on P more =
        let ends = passed.ends in
        let closed = ends.2 in
        let none = file_passes at x ats comes s ends.0 frames_are close ends.1.takes closed.takes in
        let written : m.written ≡ append_known t.written_before (spliced_bytes at s.frames) =
        wrote_plain t.written_before m.written (spliced_bytes at ends.0) (closed.written ∙ ap (λ (l : List ℕ). append_known t.written_before (spliced_bytes at ends.0 ++ l)) closed.closes)
        ∙ ap (λ (fs : List Frame). append_known t.written_before (spliced_bytes at fs)) (sym frames_are) in
        goes_on at x ats s ss t (from_middle t m) P comes none (file_front at x ats comes s ends.0 frames_are ends.1.takes ∙ sym frames_are) written refl more

  -- ---- all files

  pub walked : (at : PieceAt) (ats : List ℕ) (texts taken : List (List ℕ)) (scripts : List FileScript) (t : Traces) (o : Outcome) → Comes at ats → length ats ≡ length texts → AreScripts texts scripts → IsOwn o → DoesInputs splices at texts taken t o → Walked (SaysStop o) at ats scripts t
  walked at [] [] [] [] t o comes n are own (id, inl h) = record { says = says_done o h.0; wrote = idle d t id.written }
    where
      says_done : (p : Outcome) → p ≡ is.Done → SaysStop p None
      says_done p e = subst (λ (y : Outcome). SaysStop y None) (sym e) refl
  walked at ats texts [] scripts t o comes n are own (id, inr h) = absurd (not_own d o h own)
  walked at [] (text ∷ texts) [] scripts t o comes n are own (id, inl h) = absurd (omega (arith, n))
  walked at (x ∷ ats) [] [] scripts t o comes n are own (id, inl h) = absurd (omega (arith, n))
  walked at (x ∷ ats) (text ∷ texts) [] scripts t o comes n are own (id, inl h) = absurd (let e : text ∷ texts ≡ [] = h.1 in cc)
  walked at [] [] [] (s ∷ ss) t o comes n are own (id, inl h) = absurd are
  walked at ats [] (front ∷ taken) scripts t o comes n are own h = absurd h
  walked at [] (text ∷ texts) (front ∷ taken) scripts t o comes n are own h = absurd (omega (arith, n))
  walked at (x ∷ ats) (text ∷ texts) (front ∷ taken) [] t o comes n are own h = absurd are
  walked at (x ∷ ats) (text ∷ texts) (front ∷ taken) (s ∷ ss) t o comes n are own (inl h) = stops at x ats comes s text are.0.0 are.0.1 are.0.2 ss t front taken o own h
  walked at (x ∷ ats) (text ∷ texts) (front ∷ taken) (s ∷ ss) t o comes n are own (inr h) =
      let next = h.0 in
      let m = h.1 in
      let passed = h.2 in
      let one = one_script text s.frames passed.ends.0 are.0.0 End are.0.2 passed.ends.1.script in
      let script = subst (λ (k : Mark). IsScript text s.frames k) one.1 are.0.2 in
      let close : s.close ≡ Marked End = are.0.1 ∙ ap (λ (k : Mark). Marked k) one.1 in
      let there = next_is_there at x ats comes s ss text front t m next passed script close in
      let more = walked (next_at at s.frames) ats texts taken ss (from_middle t m) o (next_comes at x ats s.frames comes) (omega (arith, n)) are.1 own (subst (λ (y : PieceAt). DoesInputs splices y texts taken (from_middle t m) o) there h.3) in
      walks_on at x ats comes s ss text front t m next passed script close (SaysStop o) more

  -- ---- a read that failed

  read_none : (at : PieceAt) (ats : List ℕ) (t : Traces) → t.written_after ≡ t.written_before → Walked IsReadTo at ats [] t
  read_none at [] t same = record { says = tt; wrote = idle d t same }
  read_none at (x ∷ ats) t same = record { says = tt; wrote = idle d t same }

  pub cut_short : (at : PieceAt) (ats : List ℕ) (texts taken : List (List ℕ)) (t : Traces) → Comes at ats → length ats ≡ length texts → DoesInputs splices at texts taken t is.ReadFault
      → (scripts : List FileScript) × AreCutShort texts taken scripts × Walked IsReadTo at ats scripts t
  cut_short at ats texts [] t comes n h = ([], refl, read_none at ats t (let id = h.0 in id.written))
  cut_short at ats [] (front ∷ taken) t comes n h = absurd h
  cut_short at [] (text ∷ texts) (front ∷ taken) t comes n h = absurd (omega (arith, n))
  cut_short at (x ∷ ats) (text ∷ texts) (front ∷ taken) t comes n (inl h) =
      let frames = h.ends.0 in
      let mark = h.ends.1 in
      let s : FileScript = record { frames = frames; close = Unread } in
      let stop = stop_close d.warm (asked_at at) s NotRead (file_none at x ats comes s frames refl h.ends.2.takes) refl in
      (s ∷ [], inr (h.last, refl, refl, (mark, h.ends.2.script, h.ends.3)), ends_walk at x ats s [] t IsReadTo (Behind NotRead) frames comes stop tt (file_front at x ats comes s frames refl h.ends.2.takes) h.ends.4.written)
  cut_short at (x ∷ ats) (text ∷ texts) (front ∷ taken) t comes n (inr h) =
      let next = h.0 in
      let m = h.1 in
      let passed = h.2 in
      let frames = passed.ends.0 in
      let script = passed.ends.1.script in
      let s : FileScript = record { frames = frames; close = Marked End } in
      let there = next_is_there at x ats comes s [] text front t m next passed script refl in
      let more = cut_short (next_at at frames) ats texts taken (from_middle t m) (next_comes at x ats frames comes) (omega (arith, n)) (subst (λ (y : PieceAt). DoesInputs splices y texts taken (from_middle t m) is.ReadFault) there h.3) in
      (s ∷ more.0, inl ((End, refl, script), more.1), walks_on at x ats comes s more.0 text front t m next passed script refl IsReadTo more.2)
