-- `splice` has no stop exactly where the files are planned soundly, and no frame of the pieces is too long.
use Rattle.std.proofs.Common.{◌≡◌, ℕ, ◌+◌, List, [], ◌∷◌, ◌++◌, map, Option, None, Bool, true, false, refl, sym, ap, subst, ◌∙◌}
use Rattle.std.specs.Prelude.{All, ◌↔◌, ◌||◌}
use Rattle.std.specs.List.{AllZip}
use Rattle.std.specs.List.Sorted.{IsStrictlyIncreasing}
use Rattle.std.proofs.lemmas.Bool.{ltb-false, le-ltb}
use Rattle.std.proofs.lemmas.List.Elements.{All-nil, All-cons, All-head, All-tail}
use Rattle.layout.specs.Layout.{FitsOption}
use Rattle.latm.specs.Written.{canonical_length}
use Rattle.usac_cfg.specs.declared.usac_config.UsacConfig.{UsacConfig}
use Rattle.usac_cfg.specs.UsacConfig.{IsWellFormed}
use Rattle.timeline.specs.declared.piece.Piece.{Piece}
use Rattle.timeline.specs.Order.{order_result}
use Rattle.timeline.specs.Plan.{first_position}
use Rattle.plans.specs.Coded.{Coded}
use Rattle.plans.specs.Parts.{Part}
use Rattle.plans.specs.WholeStream.{stream_config}
use Rattle.splicer.specs.declared.asked.Asked.{Asked}
use Rattle.splicer.specs.declared.fault.SpliceFault.{SpliceFault}
use Rattle.splicer.specs.Laws.{GiveSoundPlans, GivesSoundPieces}
use Rattle.splicer.specs.Pieces.{asked, fault_over, GiveParts}
use Rattle.splicer.specs.Runs.{RunValue, new_run, fault, behind}
use Rattle.splicer.proofs.Joining.{or_first, or_second}
use Rattle.splicer.proofs.Plans.{rises_next, rises_later, well_config}
use Rattle.au_stream.specs.Canonical.{Handed}
use Rattle.au_stream.specs.Frames.{Frame, config_of}
use Rattle.playing.specs.Spliced.{coded}
use Rattle.joining.specs.Events.{FileScript, order_event, coded_of, file_event, files_event}
use Rattle.joining.specs.Answers.{ArePlanned, NoEventIsAPlan}
use Rattle.joining.specs.Splicing.{Halt, is_long, some_long, halt_with, halt, handed_of, handed_over}
use Rattle.joining.specs.SpliceEvents.{Stop, or_stop, frame_stop, stop_behind, or_halt, halt_over, file_stop, files_stop, first_stop}
use Rattle.joining.specs.PieceFrames.{FitsElement, FitElements, part_handed}
use Rattle.joining.specs.SpliceAnswers.{AreSpliceable, NoStopIsAPlan}
use Rattle.joining.proofs.NoEvent.{first_none as events_none, both_none, scripts_fine, rule_none}
use Rattle.joining.proofs.NoStop.{halts_none, stops_none, frame_none, file_none, no_stop_is_planned}
use Rattle.joining.proofs.Writable.{with_short}
use Rattle.joining.proofs.PartFrames.{over_part}

-- ---- none of two

or_halts : (x y : Option Halt) → x ≡ None → y ≡ None → or_halt x y ≡ None
or_halts x y h k = ap (λ (o : Option Halt). or_halt o y) h ∙ k

or_stops : (x y : Option Stop) → x ≡ None → y ≡ None → or_stop x y ≡ None
or_stops x y h k = ap (λ (o : Option Stop). or_stop o y) h ∙ k

with_neither : (o : Option SpliceFault) (long : Bool) (n : ℕ) → o ≡ None → long ≡ false → halt_with o long n ≡ None
with_neither o long n h k = ap (λ (x : Option SpliceFault). halt_with x long n) h ∙ ap (λ (b : Bool). halt_with None b n) k

-- ---- none is long

both_short : (a b : Bool) → (a || b) ≡ false → (a ≡ false) × (b ≡ false)
both_short true b h = absurd cc
both_short false b h = (refl, h)

neither_long : (a b : Bool) → a ≡ false → b ≡ false → (a || b) ≡ false
neither_long a b h k = ap (λ (x : Bool). x || b) h ∙ k

short_split : (hs gs : List Handed) → some_long (hs ++ gs) ≡ false → (some_long hs ≡ false) × (some_long gs ≡ false)
short_split [] gs e = (refl, e)
short_split (h ∷ hs) gs e =
    let x = both_short (is_long h) (some_long (hs ++ gs)) e in
    let y = short_split hs gs x.1 in
    (neither_long (is_long h) (some_long hs) x.0 y.0, y.1)

short_append : (hs gs : List Handed) → some_long hs ≡ false → some_long gs ≡ false → some_long (hs ++ gs) ≡ false
short_append [] gs e f = f
short_append (h ∷ hs) gs e f =
    let x = both_short (is_long h) (some_long hs) e in
    neither_long (is_long h) (some_long (hs ++ gs)) x.0 (short_append hs gs x.1 f)

short_fits : (hs : List Handed) → some_long hs ≡ false → All FitsElement hs
short_fits [] e = All-nil FitsElement
short_fits (h ∷ hs) e =
    let x = both_short (is_long h) (some_long hs) e in
    All-cons FitsElement h hs (ltb-false 8191 (canonical_length h.asc h.au) x.0) (short_fits hs x.1)

fits_short : (hs : List Handed) → All FitsElement hs → some_long hs ≡ false
fits_short [] fit = refl
fits_short (h ∷ hs) fit =
    neither_long (is_long h) (some_long hs) (le-ltb 8191 (canonical_length h.asc h.au) (All-head FitsElement h hs fit)) (fits_short hs (All-tail FitsElement h hs fit))

-- ---- one file

-- no frame that is handed over is long
over_short : (warm : UsacConfig → ℕ) (v : RunValue) (fs : List Frame) → halt_over warm v fs ≡ None → some_long (handed_over v fs) ≡ false
over_short warm v [] e = refl
over_short warm v (f ∷ fs) e =
    let both = halts_none (halt v (warm (config_of f)) f) (halt_over warm (behind v (coded f)) fs) e in
    short_append (handed_of v f) (handed_over (behind v (coded f)) fs)
    (with_short (fault v (warm (config_of f)) (coded f)) (some_long (handed_of v f)) v.frames both.0)
    (over_short warm (behind v (coded f)) fs both.1)

-- frames that break no rule, and of which none is long, are not refused
short_over : (warm : UsacConfig → ℕ) (v : RunValue) (fs : List Frame) → fault_over warm v (map coded fs) ≡ None → some_long (handed_over v fs) ≡ false → halt_over warm v fs ≡ None
short_over warm v [] rules e = refl
short_over warm v (f ∷ fs) rules e =
    let here = fault v (warm (config_of f)) (coded f) in
    let later = fault_over warm (behind v (coded f)) (map coded fs) in
    let both = short_split (handed_of v f) (handed_over (behind v (coded f)) fs) e in
    or_halts (halt v (warm (config_of f)) f) (halt_over warm (behind v (coded f)) fs)
    (with_neither here (some_long (handed_of v f)) v.frames (or_first here later rules) both.0)
    (short_over warm (behind v (coded f)) fs (or_second here later rules) both.1)

file_short : (warm : UsacConfig → ℕ) (a : Asked) (s : FileScript) → file_stop warm a s ≡ None → some_long (handed_over (new_run a) s.frames) ≡ false
file_short warm a s none = over_short warm (new_run a) s.frames (frame_none a.piece _ (stops_none _ _ none).0)

short_file : (warm : UsacConfig → ℕ) (a : Asked) (s : FileScript) → file_event warm a s ≡ None → some_long (handed_over (new_run a) s.frames) ≡ false → file_stop warm a s ≡ None
short_file warm a s none e =
    let both = events_none _ _ none in
    let over = short_over warm (new_run a) s.frames (rule_none a.piece _ both.0) e in
    or_stops _ _ (ap (frame_stop a.piece) over) (ap stop_behind both.1)

-- ---- all files

abbrev AreFine : List Coded → Type 0
AreFine fs = All (λ f. IsWellFormed f.config) fs

module _ (warm : UsacConfig → ℕ) where
  -- No file has a stop exactly where none has an event, and each frame of the parts fits an element.
  abbrev StopsFit : ℕ → Option UsacConfig → List ℕ → List FileScript → List Part → Type 0
  StopsFit k before ats ss ps = (files_stop warm k before ats ss ≡ None) ↔ ((files_event warm k before ats ss ≡ None) × AllZip FitElements ss ps)

  -- one file, and those behind it
  one_fits : (k : ℕ) (before : Option UsacConfig) (x : ℕ) (ats : List ℕ) (s : FileScript) (ss : List FileScript) (p : Part) (ps : List Part)
      → handed_over (new_run (asked k x (first_position ats) before)) s.frames ≡ part_handed s p → StopsFit (k + 1) (stream_config (coded_of s)) ats ss ps → StopsFit k before (x ∷ ats) (s ∷ ss) (p ∷ ps)
  one_fits k before x ats s ss p ps over more = (fit, free)
    where
      a : Asked
      a = asked k x (first_position ats) before

      fit : files_stop warm k before (x ∷ ats) (s ∷ ss) ≡ None → (files_event warm k before (x ∷ ats) (s ∷ ss) ≡ None) × AllZip FitElements (s ∷ ss) (p ∷ ps)
      fit none =
          let both = stops_none _ _ none in
          let later = more.0 both.1 in
          let here : FitElements s p = subst (All FitsElement) over (short_fits (handed_over (new_run a) s.frames) (file_short warm a s both.0)) in
          (both_none _ _ (file_none warm a s both.0) later.0, (here, later.1))

      free : (files_event warm k before (x ∷ ats) (s ∷ ss) ≡ None) × AllZip FitElements (s ∷ ss) (p ∷ ps) → files_stop warm k before (x ∷ ats) (s ∷ ss) ≡ None
      free h =
          let both = events_none _ _ h.0 in
          or_stops _ _ (short_file warm a s both.0 (fits_short (handed_over (new_run a) s.frames) (subst (All FitsElement) (sym over) h.1.0))) (more.1 (both.1, h.1.1))

  -- where runs over the streams of the files give the parts
  files_fit : GivesSoundPieces → (k : ℕ) (before : Option UsacConfig) (ats : List ℕ) (ss : List FileScript) (ps : List Part) → FitsOption IsWellFormed before → IsStrictlyIncreasing ats → All (λ p. AreFine p.stream) ps
      → map (λ p. p.stream) ps ≡ map coded_of ss → GiveParts warm k before ats ps → StopsFit k before ats ss ps
  files_fit sound k before [] [] [] fits r well e g = ((λ none. (refl, tt)), (λ x. refl))
  files_fit sound k before [] (s ∷ ss) [] fits r well e g = absurd cc
  files_fit sound k before [] ss (p ∷ ps) fits r well e g = absurd g
  files_fit sound k before (x ∷ ats) ss [] fits r well e g = absurd g
  files_fit sound k before (x ∷ ats) [] (p ∷ ps) fits r well e g = absurd cc
  files_fit sound k before (x ∷ ats) (s ∷ ss) (p ∷ ps) fits r well e g =
      let a = asked k x (first_position ats) before in
      let stream : p.stream ≡ coded_of s = cc in
      let others : map (λ q. q.stream) ps ≡ map coded_of ss = cc in
      let fine = All-head (λ (q : Part). AreFine q.stream) p ps well in
      let piece : Piece = record { from = p.from; to = p.to } in
      let over = over_part warm a s p stream fine ((sound warm a p.stream piece fits (rises_next x ats r) fine).0 g.0) in
      one_fits k before x ats s ss p ps over
      (files_fit sound (k + 1) (stream_config (coded_of s)) ats ss ps (subst (λ (fs : List Coded). FitsOption IsWellFormed (stream_config fs)) stream (well_config p.stream fine)) (rises_later x ats r)
      (All-tail (λ (q : Part). AreFine q.stream) p ps well) others (subst (λ (fs : List Coded). GiveParts warm (k + 1) (stream_config fs) ats ps) stream g.1))

-- ---- the law

module _ (law : NoEventIsAPlan) (plans : GiveSoundPlans) (sound : GivesSoundPieces) where
  pub no_stop_is_a_plan : NoStopIsAPlan
  no_stop_is_a_plan warm positions texts ss are n = (spliceable, unstopped)
    where
      files : (plan : ArePlanned warm positions ss) → StopsFit warm 0 None positions ss plan.parts
      files plan =
          let well = scripts_fine texts ss plan.parts are plan.streams in
          files_fit warm sound 0 None positions ss plan.parts tt plan.rise well plan.streams ((plans warm positions plan.parts plan.rise well).1 (plan.sound, plan.timed))

      spliceable : first_stop warm positions ss ≡ None → AreSpliceable warm positions ss
      spliceable none =
          let plan = no_stop_is_planned law warm positions texts ss are n none in
          let both = stops_none (stop_behind (order_event (order_result positions))) (files_stop warm 0 None positions ss) none in
          record { plan = plan; fit = ((files plan).0 both.1).1 }

      unstopped : AreSpliceable warm positions ss → first_stop warm positions ss ≡ None
      unstopped x =
          let both = events_none _ _ ((law warm positions texts ss are n).1 x.plan) in
          or_stops _ _ (ap stop_behind both.0) ((files x.plan).1 (both.1, x.fit))
