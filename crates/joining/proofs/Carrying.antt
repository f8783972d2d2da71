-- What `splice` writes, where there is no stop, carries the splice of the plan.
use Rattle.std.proofs.Common.{◌≡◌, ℕ, ◌+◌, ◌<◌, ◌≤◌, List, [], ◌∷◌, ◌++◌, length, map, Option, Some, None, refl, sym, ap, subst, ◌∙◌, arith}
use Rattle.std.specs.Prelude.{All}
use Rattle.std.specs.List.Sorted.{IsStrictlyIncreasing}
use Rattle.std.proofs.lemmas.List.{map-append}
use Rattle.std.proofs.lemmas.List.Elements.{All-nil, All-append, All-head, All-tail}
use Rattle.layout.specs.Layout.{FitsOption}
use Rattle.asc.specs.declared.asc_config.Asc.{Asc}
use Rattle.usac_cfg.specs.declared.usac_config.UsacConfig.{UsacConfig}
use Rattle.usac_cfg.specs.UsacConfig.{IsWellFormed}
use Rattle.timeline.specs.declared.piece.Piece.{Piece}
use Rattle.timeline.specs.Order.{order_result}
use Rattle.timeline.specs.Plan.{first_position}
use Rattle.timeline.specs.Laws.{JudgesOrder}
use Rattle.plans.specs.Coded.{Coded}
use Rattle.plans.specs.WholeStream.{IsWholeStream, stream_config}
use Rattle.plans.specs.Parts.{Part, part_frames, spliced}
use Rattle.plans.specs.SoundPlan.{IsSoundPlan}
use Rattle.splicer.specs.declared.asked.Asked.{Asked}
use Rattle.splicer.specs.declared.turn.Turn.{Turn}
use Rattle.splicer.specs.declared.turn.Turn.TheVariants.{Skip, Start, Join, Play, After}
use Rattle.splicer.specs.Rules.{from_of}
use Rattle.splicer.specs.Pieces.{GiveParts, GivesPiece, Rises, AreTimedBy, asked, given}
use Rattle.splicer.specs.Laws.{GiveSoundPlans, GivesSoundPieces, GivesFrames}
use Rattle.splicer.specs.Runs.{RunValue, new_run, turn, behind}
use Rattle.splicer.proofs.Plans.{rises_next, rises_later, well_config}
use Rattle.au_stream.specs.Canonical.{Handed, HasFrame, BeginsWith, asc_behind, bytes_of_handed, frames_of_handed}
use Rattle.au_stream.specs.Frames.{Frame, config_of}
use Rattle.au_stream.specs.Script.{End, IsScript, most_bytes}
use Rattle.playing.specs.Spliced.{CarriesSplice, coded}
use Rattle.joining.specs.Events.{FileScript, order_event, coded_of, AreScripts}
use Rattle.joining.specs.Splicing.{halt, handed_with, handed_over}
use Rattle.joining.specs.SpliceEvents.{unless, halt_over, frames_before, file_stop, file_handed, files_stop, files_handed, all_handed}
use Rattle.joining.specs.SpliceAnswers.{NoStopIsASplice}
use Rattle.joining.proofs.HandedFrames.{StandsBy, IsCounted, turn_stands, frames_given}
use Rattle.joining.proofs.NoEvent.{no_event_is_a_plan, scripts_fine}
use Rattle.joining.proofs.NoStop.{halts_none, stops_none, frame_none, behind_none, no_stop_is_planned}
use Rattle.joining.proofs.SpliceEvents.{unless_none}
use Rattle.joining.proofs.Writable.{script_writable, have_frames}

-- ---- all frames of a file are before its stop, where there is none

front_none : (warm : UsacConfig → ℕ) (v : RunValue) (fs : List Frame) → halt_over warm v fs ≡ None → frames_before warm v fs ≡ fs
front_none warm v [] h = refl
front_none warm v (f ∷ fs) h =
    let both = halts_none (halt v (warm (config_of f)) f) (halt_over warm (behind v (coded f)) fs) h in
    unless_none _ _ both.0 ∙ ap (λ (xs : List Frame). f ∷ xs) (front_none warm (behind v (coded f)) fs both.1)

module _ (warm : UsacConfig → ℕ) (a : Asked) (s : FileScript) (none : file_stop warm a s ≡ None) where
  no_halt : halt_over warm (new_run a) s.frames ≡ None
  no_halt = frame_none a.piece _ (stops_none _ _ none).0

  file_is : file_handed warm a s ≡ handed_over (new_run a) s.frames
  file_is = ap (handed_over (new_run a)) (front_none warm (new_run a) s.frames no_halt)

  file_then : (later : List Handed) → file_handed warm a s ++ unless (file_stop warm a s) later ≡ handed_over (new_run a) s.frames ++ later
  file_then later = ap (λ (hs : List Handed). file_handed warm a s ++ hs) (unless_none (file_stop warm a s) later none) ∙ ap (λ (hs : List Handed). hs ++ later) file_is

-- ---- the frames that access units carry

asc_over : Asc → List Handed → Asc
asc_over before [] = before
asc_over before (h ∷ hs) = asc_over (asc_behind before h.asc) hs

frames_append : (before : Asc) (hs gs : List Handed) → (after : Asc) × (frames_of_handed before (hs ++ gs) ≡ frames_of_handed before hs ++ frames_of_handed after gs)
frames_append before [] gs = (before, refl)
frames_append before (h ∷ hs) gs = let more = frames_append (asc_behind before h.asc) hs gs in (more.0, cc)

-- the configuration of a whole stream
whole_config : (fs : List Coded) → IsWholeStream fs → (c : UsacConfig) × All (λ g. g.config ≡ c) fs
whole_config [] w = absurd w
whole_config (f ∷ fs) w = (f.config, w.0)

abbrev AreFine : List Coded → Type 0
AreFine fs = All (λ f. IsWellFormed f.config) fs

module _ (sound : GivesSoundPieces) (gives : GivesFrames) (warm : UsacConfig → ℕ) where
  -- the frames of one file are those of its part
  file_frames : (a : Asked) (s : FileScript) (p : Part) → FitsOption IsWellFormed a.before → Rises a.position a.until → AreFine p.stream → p.stream ≡ coded_of s
      → GivesPiece warm a p.stream (record { from = p.from; to = p.to }) → (asc : Asc) → map coded (frames_of_handed asc (handed_over (new_run a) s.frames)) ≡ part_frames p
  file_frames a s p fits rises well stream g asc =
      let piece : Piece = record { from = p.from; to = p.to } in
      let one = (sound warm a p.stream piece fits rises well).0 g in
      let c = whole_config p.stream one.part.stream in
      let same : All (λ (q : Coded). q.config ≡ c.0) (coded_of s) = subst (λ (fs : List Coded). All (λ (q : Coded). q.config ≡ c.0) fs) stream c.1 in
      frames_given c.0 (new_run a) asc s.frames same refl (λ lt. absurd (omega (arith, lt))) ∙ (ap (given (new_run a)) (sym stream) ∙ gives warm a p.stream piece fits rises well g)

  pub frames_spliced : (k : ℕ) (before : Option UsacConfig) (ats : List ℕ) (ss : List FileScript) (ps : List Part) → FitsOption IsWellFormed before → IsStrictlyIncreasing ats → All (λ p. AreFine p.stream) ps → map (λ p. p.stream) ps ≡ map coded_of ss
      → GiveParts warm k before ats ps → files_stop warm k before ats ss ≡ None → (asc : Asc) → map coded (frames_of_handed asc (files_handed warm k before ats ss)) ≡ spliced ps
  frames_spliced k before [] ss [] fits r well e g none asc = refl
  frames_spliced k before [] ss (p ∷ ps) fits r well e g none asc = absurd g
  frames_spliced k before (x ∷ ats) ss [] fits r well e g none asc = absurd g
  frames_spliced k before (x ∷ ats) [] (p ∷ ps) fits r well e g none asc = absurd cc
  frames_spliced k before (x ∷ ats) (s ∷ ss) (p ∷ ps) fits r well e g none asc =
      let a = asked k x (first_position ats) before in
      let both = stops_none _ _ none in
      let stream : p.stream ≡ coded_of s = cc in
      let others : map (λ q. q.stream) ps ≡ map coded_of ss = cc in
      let fine = All-head (λ (q : Part). AreFine q.stream) p ps well in
      let own = handed_over (new_run a) s.frames in
      let later = files_handed warm (k + 1) (stream_config (coded_of s)) ats ss in
      let split = frames_append asc own later in
      let here = file_frames a s p fits (rises_next x ats r) fine stream g.0 asc in
      let more = frames_spliced (k + 1) (stream_config (coded_of s)) ats ss ps (subst (λ (fs : List Coded). FitsOption IsWellFormed (stream_config fs)) stream (well_config p.stream fine)) (rises_later x ats r)
      (All-tail (λ (q : Part). AreFine q.stream) p ps well) others (subst (λ (fs : List Coded). GiveParts warm (k + 1) (stream_config fs) ats ps) stream g.1) both.1 split.0 in
      ap (λ (hs : List Handed). map coded (frames_of_handed asc hs)) (file_then warm a s both.0 later)
      ∙ (ap (λ (fs : List Frame). map coded fs) split.1
      ∙ (map-append coded (frames_of_handed asc own) (frames_of_handed split.0 later)
      ∙ (ap (λ (fs : List Coded). fs ++ map coded (frames_of_handed split.0 later)) here ∙ ap (λ (fs : List Coded). part_frames p ++ fs) more)))

-- each access unit has its LOAS frame
pub all_have_frames : (warm : UsacConfig → ℕ) (k : ℕ) (before : Option UsacConfig) (ats : List ℕ) (texts : List (List ℕ)) (ss : List FileScript) → AreScripts texts ss → files_stop warm k before ats ss ≡ None → All HasFrame (files_handed warm k before ats ss)
all_have_frames warm k before [] texts ss are none = All-nil HasFrame
all_have_frames warm k before (x ∷ ats) texts [] are none = All-nil HasFrame
all_have_frames warm k before (x ∷ ats) [] (s ∷ ss) are none = absurd are
all_have_frames warm k before (x ∷ ats) (text ∷ texts) (s ∷ ss) are none =
    let a = asked k x (first_position ats) before in
    let both = stops_none _ _ none in
    let later = files_handed warm (k + 1) (stream_config (coded_of s)) ats ss in
    let own = have_frames warm (new_run a) s.frames (script_writable text s.frames are.0.0 are.0.2) (no_halt warm a s both.0) in
    subst (All HasFrame) (sym (file_then warm a s both.0 later)) (All-append HasFrame (handed_over (new_run a) s.frames) later own (all_have_frames warm (k + 1) (stream_config (coded_of s)) ats texts ss are.1 both.1))

-- ---- the first access unit is given with an AudioSpecificConfig

abbrev Opens : List Handed → Type 0
Opens [] = Unit {0}
Opens (h ∷ hs) = (first : Asc) × (h.asc ≡ Some first)

opens_append : (hs gs : List Handed) → Opens hs → Opens gs → Opens (hs ++ gs)
opens_append [] gs a b = b
opens_append (h ∷ hs) gs a b = a

module _ (c : UsacConfig) where
  one_opens : (v : RunValue) (f : Frame) (fs : List Frame) → v.frames ≤ from_of v.asked c → (v.frames + 1 ≤ from_of v.asked c → Opens (handed_over (behind v (coded f)) fs)) → (t : Turn) → StandsBy v.frames (from_of v.asked c) t
      → Opens (handed_with t f.mux.asc f.au ++ handed_over (behind v (coded f)) fs)
  one_opens v f fs low more Skip n = more (omega (arith, n))
  one_opens v f fs low more (Start units fade) n = (f.mux.asc, refl)
  one_opens v f fs low more (Join units fade) n = (f.mux.asc, refl)
  one_opens v f fs low more Play n = absurd (omega (arith, n, low))
  one_opens v f fs low more After n = absurd (omega (arith, n, low))

  opens_over : (v : RunValue) (fs : List Frame) → All (λ g. g.config ≡ c) (map coded fs) → IsCounted v → v.frames ≤ from_of v.asked c → Opens (handed_over v fs)
  opens_over v [] same counted low = tt
  opens_over v (f ∷ fs) same counted low =
      let mine : config_of f ≡ c = All-head (λ (g : Coded). g.config ≡ c) (coded f) (map coded fs) same in
      let others = All-tail (λ (g : Coded). g.config ≡ c) (coded f) (map coded fs) same in
      one_opens v f fs low (λ le. opens_over (behind v (coded f)) fs others refl le) (turn v (coded f)) (subst (λ (x : UsacConfig). StandsBy v.frames (from_of v.asked x) (turn v (coded f))) mine (turn_stands v f counted))

module _ (sound : GivesSoundPieces) (warm : UsacConfig → ℕ) where
  pub all_open : (k : ℕ) (before : Option UsacConfig) (ats : List ℕ) (ss : List FileScript) (ps : List Part) → FitsOption IsWellFormed before → IsStrictlyIncreasing ats → All (λ p. AreFine p.stream) ps → map (λ p. p.stream) ps ≡ map coded_of ss
      → GiveParts warm k before ats ps → files_stop warm k before ats ss ≡ None → Opens (files_handed warm k before ats ss)
  all_open k before [] ss ps fits r well e g none = tt
  all_open k before (x ∷ ats) [] ps fits r well e g none = tt
  all_open k before (x ∷ ats) (s ∷ ss) [] fits r well e g none = absurd g
  all_open k before (x ∷ ats) (s ∷ ss) (p ∷ ps) fits r well e g none =
      let a = asked k x (first_position ats) before in
      let both = stops_none _ _ none in
      let stream : p.stream ≡ coded_of s = cc in
      let others : map (λ q. q.stream) ps ≡ map coded_of ss = cc in
      let fine = All-head (λ (q : Part). AreFine q.stream) p ps well in
      let piece : Piece = record { from = p.from; to = p.to } in
      let one = (sound warm a p.stream piece fits (rises_next x ats r) fine).0 g.0 in
      let c = whole_config p.stream one.part.stream in
      let same : All (λ (q : Coded). q.config ≡ c.0) (coded_of s) = subst (λ (fs : List Coded). All (λ (q : Coded). q.config ≡ c.0) fs) stream c.1 in
      let later = files_handed warm (k + 1) (stream_config (coded_of s)) ats ss in
      let more = all_open (k + 1) (stream_config (coded_of s)) ats ss ps (subst (λ (fs : List Coded). FitsOption IsWellFormed (stream_config fs)) stream (well_config p.stream fine)) (rises_later x ats r)
      (All-tail (λ (q : Part). AreFine q.stream) p ps well) others (subst (λ (fs : List Coded). GiveParts warm (k + 1) (stream_config fs) ats ps) stream g.1) both.1 in
      subst Opens (sym (file_then warm a s both.0 later)) (opens_append (handed_over (new_run a) s.frames) later (opens_over c.0 (new_run a) s.frames same refl (omega arith)) more)

-- ---- the law

-- Access units that are handed on in the canonical mux are read back.
abbrev AreReadBack : Type 0
AreReadBack = (first : Asc) (handed : List Handed) → BeginsWith first handed → All HasFrame handed → length (bytes_of_handed handed) ≤ most_bytes → IsScript (bytes_of_handed handed) (frames_of_handed first handed) End

script_of : AreReadBack → (hs : List Handed) → Opens hs → All HasFrame hs → length (bytes_of_handed hs) ≤ most_bytes → Asc → (first : Asc) × IsScript (bytes_of_handed hs) (frames_of_handed first hs) End
script_of back [] o all le asc = (asc, back asc [] tt all le)
script_of back (h ∷ hs) o all le asc = (o.0, back o.0 (h ∷ hs) o.1 all le)

some_config : (warm : UsacConfig → ℕ) (positions : List ℕ) (ps : List Part) → 0 < length positions → AreTimedBy positions ps → IsSoundPlan warm ps → UsacConfig
some_config warm [] ps lt timed plan = absurd (omega (arith, lt))
some_config warm (x ∷ xs) [] lt timed plan = absurd timed
some_config warm (x ∷ xs) (p ∷ ps) lt timed plan = (whole_config p.stream plan.0.stream).0

module _ (orders : JudgesOrder) (plans : GiveSoundPlans) (sound : GivesSoundPieces) (gives : GivesFrames) (back : AreReadBack) where
  pub no_stop_is_a_splice : NoStopIsASplice
  no_stop_is_a_splice warm positions texts ss are n some none few =
      let plan = no_stop_is_planned (no_event_is_a_plan orders plans) warm positions texts ss are n none in
      let both = stops_none _ _ none in
      let well = scripts_fine texts ss plan.parts are plan.streams in
      let give = (plans warm positions plan.parts plan.rise well).1 (plan.sound, plan.timed) in
      let hs = files_handed warm 0 None positions ss in
      let all : all_handed warm positions ss ≡ hs = unless_none (order_event (order_result positions)) hs (behind_none _ both.0) in
      let short : length (bytes_of_handed hs) ≤ most_bytes = subst (λ (x : List Handed). length (bytes_of_handed x) ≤ most_bytes) all few in
      let asc : Asc = record { index = 0; explicit_rate = 0; channels = 0; usac = some_config warm positions plan.parts some plan.timed plan.sound; tail = [] } in
      let script = script_of back hs (all_open sound warm 0 None positions ss plan.parts tt plan.rise well plan.streams give both.1) (all_have_frames warm 0 None positions texts ss are both.1) short asc in (
        plan,
        subst (λ (x : List Handed). CarriesSplice (bytes_of_handed x) plan.parts) (sym all)
            (frames_of_handed script.0 hs, script.1, frames_spliced sound gives warm 0 None positions ss plan.parts tt plan.rise well plan.streams give both.1 script.0),
      )
