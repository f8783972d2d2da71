-- What is given of files before their first event is the splice of a sound plan.
use Rattle.std.proofs.Common.{◌≡◌, ℕ, ◌+◌, ◌<◌, List, [], ◌∷◌, ◌++◌, length, map, Option, Some, None, Result, Ok, Err, refl, sym, ap, subst, ◌∙◌, arith, append_assoc}
use Rattle.std.specs.Prelude.{All}
use Rattle.std.specs.List.Sorted.{IsStrictlyIncreasing}
use Rattle.std.proofs.lemmas.List.{append-nil, map-append}
use Rattle.std.proofs.lemmas.List.Elements.{All-head, All-tail, All-nil, All-cons}
use Rattle.layout.specs.Layout.{FitsOption}
use Rattle.usac_cfg.specs.declared.usac_config.UsacConfig.{UsacConfig}
use Rattle.usac_cfg.specs.UsacConfig.{IsWellFormed}
use Rattle.timeline.specs.declared.fault.PlanFault.{PlanFault}
use Rattle.timeline.specs.declared.piece.Piece.{Piece}
use Rattle.timeline.specs.Order.{order_result}
use Rattle.timeline.specs.Plan.{first_position}
use Rattle.timeline.proofs.Timed.{judges_order}
use Rattle.plans.specs.Coded.{Coded}
use Rattle.plans.specs.Parts.{Part, spliced}
use Rattle.plans.specs.SoundPlan.{IsSoundPlan}
use Rattle.plans.specs.WholeStream.{stream_config}
use Rattle.splicer.specs.declared.asked.Asked.{Asked}
use Rattle.splicer.specs.Laws.{GiveSoundPlans}
use Rattle.splicer.specs.Pieces.{GivesPiece, GiveParts, part_of, asked, Rises}
use Rattle.splicer.specs.Runs.{new_run}
use Rattle.splicer.specs.SoFar.{part_up_to, cut_part, part_given}
use Rattle.splicer.proofs.Later.{AreWell}
use Rattle.splicer.proofs.Plans.{AllWell, rises_next, rises_later, well_config}
use Rattle.splicer.proofs.SoFar.{spliced_cut}
use Rattle.core_iface.specs.Decoding.{Definitions}
use Rattle.switch_player.specs.Laws.{SplicesConverge}
use Rattle.au_stream.specs.Frames.{Frame}
use Rattle.au_stream.specs.Script.{End}
use Rattle.playing.specs.Spliced.{coded, plan_bytes}
use Rattle.playing.proofs.Taking.{splice_bytes}
use Rattle.joining.specs.Answers.{ArePlanned as FilesArePlanned}
use Rattle.joining.specs.Renditions.{asked_at, next_place}
use Rattle.joining.specs.Events.{Marked, FileScript, Event, coded_of, file_event, order_event}
use Rattle.joining.specs.SpliceEvents.{unless}
use Rattle.joining.proofs.NoEvent.{file_gives, gives_none}
use Rattle.joining.proofs.SpliceEvents.{unless_none}
use Rattle.joining.proofs.Told.{Comes, asked_is, next_there, next_comes}
use Rattle.switching.specs.Switching.{SwitchAt, given_at, begins_at, next_at}
use Rattle.switching.specs.Standing.{ArePlanned}
use Rattle.switching.specs.PlayedPlan.{ArePlayedBy, PlaysBeforeEvents}
use Rattle.switching.specs.CutShort.{file_unbroken, file_given, file_part, files_given, files_parts, all_given, plan_cut_short}
use Rattle.switching.proofs.CutParts.{all_unbroken, unbroken_passes, unbroken_fine, part_all}
use Rattle.switching.proofs.NextPiece.{asks_fine, planned_next, parts_next, planned_first, parts_first}
use Rattle.switching.proofs.PlayedPlan.{first_comes}
use Rattle.switching.proofs.Taken.{given_soundly}

-- the frames of the files have well formed configurations
abbrev pub AllFine : List FileScript → Type 0
AllFine ss = All (λ s. AreWell (coded_of s)) ss

module _ (warm : UsacConfig → ℕ) where
  -- Behind these parts, which the earlier frames are, more frames and parts make a sound plan and its splice.
  record GoesOnSoundly (parts : List Part) (earlier given : List Frame) (more : List Part) : Type 0 where
    sound : IsSoundPlan warm (map cut_part parts ++ more)
    splice : map coded (earlier ++ given) ≡ spliced (map cut_part parts ++ more)

  so_far : (at : SwitchAt) (frames : List Frame) (h : ArePlanned warm at frames) → GoesOnSoundly h.parts at.earlier (given_at at frames) (part_given (asked_at at.piece) (map coded frames))
  so_far at frames h = let x = given_soundly warm at frames h in record { sound = x.0; splice = x.1 }

  -- the first file, and then the others
  module _ (at : SwitchAt) (x : ℕ) (ats : List ℕ) (s : FileScript) (comes : Comes at.piece (x ∷ ats)) (h : ArePlanned warm at []) (fine : AreWell (coded_of s)) where
    abbrev a : Asked
    a = asked at.piece.place x (first_position ats) at.piece.before

    same : asked_at at.piece ≡ a
    same = asked_is at.piece x ats comes

    -- what is given of it
    here : GoesOnSoundly h.parts at.earlier (file_given warm a s) (file_part warm a s)
    here =
        let v = new_run (asked_at at.piece) in
        let planned : ArePlanned warm at (file_unbroken warm (asked_at at.piece) s) = record {
          rise = h.rise;
          parts = h.parts;
          fine = h.fine;
          asks = h.asks;
          earlier = h.earlier;
          well = unbroken_fine warm v s.frames fine;
          passes = unbroken_passes warm v s.frames;
        } in
        subst (λ (b : Asked). GoesOnSoundly h.parts at.earlier (file_given warm b s) (file_part warm b s)) same (so_far at (file_unbroken warm (asked_at at.piece) s) planned)

    -- nothing more is given
    alone : GoesOnSoundly h.parts at.earlier (file_given warm a s ++ []) (file_part warm a s ++ [])
    alone =
        subst (λ (gs : List Frame). GoesOnSoundly h.parts at.earlier gs (file_part warm a s ++ [])) (sym (append-nil (file_given warm a s)))
        (subst (λ (ps : List Part). GoesOnSoundly h.parts at.earlier (file_given warm a s) ps) (sym (append-nil (file_part warm a s))) here)

    -- it has no event
    module _ (none : file_event warm a s ≡ None) where
      gives : (p : Piece) × GivesPiece warm (asked_at at.piece) (coded_of s) p
      gives = let g = (file_gives warm a s none).1 in (g.0, subst (λ (b : Asked). GivesPiece warm b (coded_of s) g.0) (sym same) g.1)

      abbrev planned : ArePlanned warm at s.frames
      planned = record { rise = h.rise; parts = h.parts; fine = h.fine; asks = h.asks; earlier = h.earlier; well = fine; passes = gives.1.passes }

      unbroken_is : file_unbroken warm (asked_at at.piece) s ≡ s.frames
      unbroken_is = all_unbroken warm (new_run (asked_at at.piece)) s.frames gives.1.passes

      given_is : file_given warm a s ≡ given_at at s.frames
      given_is = ap (λ (b : Asked). file_given warm b s) (sym same) ∙ ap (λ (fs : List Frame). given_at at fs) unbroken_is

      part_is : file_part warm a s ≡ cut_part (part_of (coded_of s) gives.0) ∷ []
      part_is =
          let asks = asks_fine warm 0 None at.piece.positions h.parts (asked_at at.piece) tt h.rise h.fine h.asks in
          ap (λ (b : Asked). file_part warm b s) (sym same)
          ∙ (ap (λ (fs : List Frame). part_given (asked_at at.piece) (map coded fs)) unbroken_is
          ∙ part_all warm (asked_at at.piece) (coded_of s) gives.0 asks.0 asks.1 fine gives.1)

      -- there is a next piece
      module _ (lt : at.piece.place < next_place at.piece.place at.piece.positions) where
        abbrev behind : ArePlanned warm (next_at at s.frames) []
        behind = planned_next warm at s.frames gives.0 planned gives.1.ends lt

        -- what is given behind it
        follows : (given : List Frame) (more : List Part) → GoesOnSoundly behind.parts (at.earlier ++ given_at at s.frames) given more → GoesOnSoundly h.parts at.earlier (file_given warm a s ++ given) (file_part warm a s ++ more)
        follows given more later =
            let own = part_of (coded_of s) gives.0 in
            let parts : map cut_part behind.parts ++ more ≡ map cut_part h.parts ++ (file_part warm a s ++ more) =
            ap (λ (ps : List Part). map cut_part ps ++ more) (parts_next warm at s.frames gives.0 planned gives.1.ends lt)
            ∙ (ap (λ (ps : List Part). ps ++ more) (map-append cut_part h.parts (own ∷ []))
            ∙ (append_assoc (map cut_part h.parts) (cut_part own ∷ []) more ∙ ap (λ (ps : List Part). map cut_part h.parts ++ (ps ++ more)) (sym part_is))) in
            let frames : (at.earlier ++ given_at at s.frames) ++ given ≡ at.earlier ++ (file_given warm a s ++ given) =
            append_assoc at.earlier (given_at at s.frames) given ∙ ap (λ (gs : List Frame). at.earlier ++ (gs ++ given)) (sym given_is) in
            record {
              sound = subst (IsSoundPlan warm) parts later.sound;
              splice = ap (λ (fs : List Frame). map coded fs) (sym frames) ∙ (later.splice ∙ ap spliced parts);
            }

    -- by its event
    by_event : (given : List Frame) (more : List Part) → (file_event warm a s ≡ None → GoesOnSoundly h.parts at.earlier (file_given warm a s ++ given) (file_part warm a s ++ more))
        → GoesOnSoundly h.parts at.earlier (file_given warm a s ++ unless (file_event warm a s) given) (file_part warm a s ++ unless (file_event warm a s) more)
    by_event given more later = by_test (file_event warm a s) refl
      where
        by_test : (o : Option Event) → file_event warm a s ≡ o → GoesOnSoundly h.parts at.earlier (file_given warm a s ++ unless o given) (file_part warm a s ++ unless o more)
        by_test (Some e) is = alone
        by_test None is = later is

  -- the place of the next piece
  place_next : (at : SwitchAt) (x y : ℕ) (ats : List ℕ) → Comes at.piece (x ∷ y ∷ ats) → at.piece.place < next_place at.piece.place at.piece.positions
  place_next at x y ats comes = let e = next_there at.piece.place at.piece.positions x y ats comes in omega (arith, e)

  walk : (at : SwitchAt) (ats : List ℕ) (ss : List FileScript) → Comes at.piece ats → (h : ArePlanned warm at []) → AllFine ss
      → GoesOnSoundly h.parts at.earlier (files_given warm at.piece.place at.piece.before ats ss) (files_parts warm at.piece.place at.piece.before ats ss)
  walk at [] ss comes h fine = so_far at [] h
  walk at (x ∷ ats) [] comes h fine = so_far at [] h
  walk at (x ∷ []) (s ∷ ss) comes h fine =
      let own = All-head (λ (y : FileScript). AreWell (coded_of y)) s ss fine in
      by_event at x [] s comes h own [] [] (λ none. alone at x [] s comes h own)
  walk at (x ∷ y ∷ ats) (s ∷ ss) comes h fine =
      let Fine : FileScript → Type 0 = λ y. AreWell (coded_of y) in
      let own = All-head Fine s ss fine in
      let config = stream_config (coded_of s) in
      let lt = place_next at x y ats comes in
      let next = next_there at.piece.place at.piece.positions x y ats comes in
      by_event at x (y ∷ ats) s comes h own (files_given warm (at.piece.place + 1) config (y ∷ ats) ss) (files_parts warm (at.piece.place + 1) config (y ∷ ats) ss)
      (λ none.
      let after = behind at x (y ∷ ats) s comes h own none lt in
      let later = walk (next_at at s.frames) (y ∷ ats) ss (next_comes at.piece x (y ∷ ats) s.frames comes) after (All-tail Fine s ss fine) in
      follows at x (y ∷ ats) s comes h own none lt (files_given warm (at.piece.place + 1) config (y ∷ ats) ss) (files_parts warm (at.piece.place + 1) config (y ∷ ats) ss)
      (subst (λ (k : ℕ). GoesOnSoundly after.parts (at.earlier ++ given_at at s.frames) (files_given warm k config (y ∷ ats) ss) (files_parts warm k config (y ∷ ats) ss)) next later))

  -- ---- all files

  pub cut_soundly : (positions : List ℕ) (ss : List FileScript) → AllFine ss → IsSoundPlan warm (plan_cut_short warm positions ss) × (map coded (all_given warm positions ss) ≡ spliced (plan_cut_short warm positions ss))
  cut_soundly positions ss fine = by_order (order_result positions) refl
    where
      ordered : (ats : List ℕ) → IsStrictlyIncreasing ats → IsSoundPlan warm (files_parts warm 0 None ats ss) × (map coded (files_given warm 0 None ats ss) ≡ spliced (files_parts warm 0 None ats ss))
      ordered [] rise = (tt, refl)
      ordered (x ∷ ats) rise =
          let some : 0 < length (x ∷ ats) = omega arith in
          let first = planned_first warm (x ∷ ats) some rise in
          let all = walk (begins_at (x ∷ ats)) (x ∷ ats) ss (first_comes (x ∷ ats)) first fine in
          let parts = files_parts warm 0 None (x ∷ ats) ss in
          let is : map cut_part first.parts ++ parts ≡ parts = ap (λ (ps : List Part). map cut_part ps ++ parts) (parts_first warm (x ∷ ats) some rise) in
          (subst (IsSoundPlan warm) is all.sound, all.splice ∙ ap spliced is)

      by_order : (q : Result (Unit {0}) PlanFault) → order_result positions ≡ q → IsSoundPlan warm (unless (order_event q) (files_parts warm 0 None positions ss)) × (map coded (unless (order_event q) (files_given warm 0 None positions ss)) ≡ spliced (unless (order_event q) (files_parts warm 0 None positions ss)))
      by_order (Err fault) e = (tt, refl)
      by_order (Ok x) e = ordered positions ((judges_order.rises positions).0 e)

-- ---- files of a sound plan

-- the streams of parts are fine, as the files are
parts_fine : (ss : List FileScript) (ps : List Part) → AllFine ss → map (λ p. p.stream) ps ≡ map coded_of ss → AllWell ps
parts_fine ss [] fine e = All-nil (λ (p : Part). AreWell p.stream)
parts_fine [] (p ∷ ps) fine e = absurd cc
parts_fine (s ∷ ss) (p ∷ ps) fine e =
    let Fine : FileScript → Type 0 = λ y. AreWell (coded_of y) in
    let stream : p.stream ≡ coded_of s = cc in
    let more : map (λ q. q.stream) ps ≡ map coded_of ss = cc in
    All-cons (λ (q : Part). AreWell q.stream) p ps (subst AreWell (sym stream) (All-head Fine s ss fine)) (parts_fine ss ps (All-tail Fine s ss fine) more)

module _ (warm : UsacConfig → ℕ) where
  -- a file that gives its piece
  whole_part : (a : Asked) (s : FileScript) (p : Part) → FitsOption IsWellFormed a.before → Rises a.position a.until → AreWell (coded_of s) → p.stream ≡ coded_of s → GivesPiece warm a (coded_of s) (record { from = p.from; to = p.to }) → file_part warm a s ≡ cut_part p ∷ []
  whole_part a s p before rises fine stream gives =
      ap (λ (fs : List Frame). part_given a (map coded fs)) (all_unbroken warm (new_run a) s.frames gives.passes)
      ∙ (part_all warm a (coded_of s) (record { from = p.from; to = p.to }) before rises fine gives
      ∙ ap (λ (fs : List Coded). part_up_to fs p.from p.to ∷ []) (sym stream))

  whole_parts : (k : ℕ) (before : Option UsacConfig) (ats : List ℕ) (ss : List FileScript) (ps : List Part) → FitsOption IsWellFormed before → IsStrictlyIncreasing ats → AllFine ss → map (λ p. p.stream) ps ≡ map coded_of ss
      → map (λ s. s.close) ss ≡ map (λ s. Marked End) ss → GiveParts warm k before ats ps → files_parts warm k before ats ss ≡ map cut_part ps
  whole_parts k before [] ss [] b rise fine e ended g = refl
  whole_parts k before [] ss (p ∷ ps) b rise fine e ended g = absurd g
  whole_parts k before (x ∷ ats) ss [] b rise fine e ended g = absurd g
  whole_parts k before (x ∷ ats) [] (p ∷ ps) b rise fine e ended g = absurd cc
  whole_parts k before (x ∷ ats) (s ∷ ss) (p ∷ ps) b rise fine e ended g =
      let Fine : FileScript → Type 0 = λ y. AreWell (coded_of y) in
      let a = asked k x (first_position ats) before in
      let own = All-head Fine s ss fine in
      let stream : p.stream ≡ coded_of s = cc in
      let streams : map (λ q. q.stream) ps ≡ map coded_of ss = cc in
      let close : s.close ≡ Marked End = cc in
      let closes : map (λ y. y.close) ss ≡ map (λ y. Marked End) ss = cc in
      let gives = subst (λ (fs : List Coded). GivesPiece warm a fs (record { from = p.from; to = p.to })) stream g.0 in
      let none = gives_none warm a s (record { from = p.from; to = p.to }) close gives in
      let give = subst (λ (fs : List Coded). GiveParts warm (k + 1) (stream_config fs) ats ps) stream g.1 in
      let more = whole_parts (k + 1) (stream_config (coded_of s)) ats ss ps (well_config (coded_of s) own) (rises_later x ats rise) (All-tail Fine s ss fine) streams closes give in
      let later = files_parts warm (k + 1) (stream_config (coded_of s)) ats ss in
      ap (λ (qs : List Part). file_part warm a s ++ qs) (unless_none (file_event warm a s) later none)
      ∙ (ap (λ (qs : List Part). qs ++ later) (whole_part a s p b (rises_next x ats rise) own stream gives) ∙ ap (λ (qs : List Part). cut_part p ∷ qs) more)

-- ---- the laws

module _ (d : Definitions) (converge : SplicesConverge d) where
  plays_cut : (positions : List ℕ) (ss : List FileScript) → AllFine ss → ArePlayedBy d (all_given d.warm positions ss) (plan_cut_short d.warm positions ss)
  plays_cut positions ss fine =
      let cut = cut_soundly d.warm positions ss fine in
      record { sound = cut.0; splice = cut.1; bytes = splice_bytes d converge (plan_cut_short d.warm positions ss) cut.0 (all_given d.warm positions ss) cut.1 }

  plays_whole : GiveSoundPlans → (positions : List ℕ) (ss : List FileScript) → AllFine ss → (plan : FilesArePlanned d.warm positions ss) → plan_bytes d (plan_cut_short d.warm positions ss) ≡ plan_bytes d plan.parts
  plays_whole plans positions ss fine plan =
      let warm = d.warm in
      let give = (plans warm positions plan.parts plan.rise (parts_fine ss plan.parts fine plan.streams)).1 (plan.sound, plan.timed) in
      let rise = (judges_order.rises positions).1 plan.rise in
      let ordered : plan_cut_short warm positions ss ≡ files_parts warm 0 None positions ss = ap (λ (q : Result (Unit {0}) PlanFault). unless (order_event q) (files_parts warm 0 None positions ss)) rise in
      let parts = ordered ∙ whole_parts warm 0 None positions ss plan.parts tt plan.rise fine plan.streams plan.ended give in
      let cut = plays_cut positions ss fine in
      let splice : map coded (all_given warm positions ss) ≡ spliced plan.parts = cut.splice ∙ (ap spliced parts ∙ spliced_cut plan.parts) in
      sym cut.bytes ∙ splice_bytes d converge plan.parts plan.sound (all_given warm positions ss) splice

  pub plays_before_events : GiveSoundPlans → PlaysBeforeEvents d
  plays_before_events plans = record { cut = plays_cut; whole = plays_whole plans }
