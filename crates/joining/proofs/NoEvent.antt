-- Files have no event exactly where they are the streams of a sound plan, timed by the positions.
use Rattle.std.proofs.Common.{◌≡◌, ℕ, ◌+◌, List, [], ◌∷◌, length, map, Option, Some, None, Result, Ok, Err, refl, sym, ap, subst, ◌∙◌, arith}
use Rattle.std.specs.Prelude.{All}
use Rattle.std.proofs.lemmas.List.Elements.{All-nil, All-cons}
use Rattle.usac_cfg.specs.declared.usac_config.UsacConfig.{UsacConfig}
use Rattle.usac_cfg.specs.UsacConfig.{IsWellFormed}
use Rattle.timeline.specs.declared.piece.Piece.{Piece}
use Rattle.timeline.specs.declared.fault.PlanFault.{PlanFault}
use Rattle.timeline.specs.Order.{order_result}
use Rattle.timeline.specs.Plan.{first_position}
use Rattle.timeline.specs.Laws.{JudgesOrder}
use Rattle.plans.specs.Coded.{Coded}
use Rattle.plans.specs.Parts.{Part}
use Rattle.plans.specs.WholeStream.{stream_config}
use Rattle.splicer.specs.declared.asked.Asked.{Asked}
use Rattle.splicer.specs.declared.fault.SpliceFault.{SpliceFault}
use Rattle.splicer.specs.Pieces.{asked, GivesPiece, GiveParts}
use Rattle.splicer.specs.Laws.{GiveSoundPlans}
use Rattle.au_stream.specs.Script.{End, SyncLost, BadElement, Truncated, TooLarge}
use Rattle.playing.proofs.FineScripts.{script_fine}
use Rattle.joining.specs.Events.{Close, Marked, Unread, FileScript, Event, or_event, rule_event, close_event, end_event, coded_of, file_event, files_event, order_event, first_event, AreScripts}
use Rattle.joining.specs.Answers.{ArePlanned, NoEventIsAPlan}

-- ---- one event

pub first_none : (x y : Option Event) → or_event x y ≡ None → (x ≡ None) × (y ≡ None)
first_none None y h = (refl, h)
first_none (Some e) y h = absurd cc

pub both_none : (x y : Option Event) → x ≡ None → y ≡ None → or_event x y ≡ None
both_none x y h k = ap (λ (o : Option Event). or_event o y) h ∙ k

pub rule_none : (k : ℕ) (o : Option SpliceFault) → rule_event k o ≡ None → o ≡ None
rule_none k None h = refl
rule_none k (Some e) h = absurd cc

pub close_none : (k : ℕ) (c : Close) → close_event k c ≡ None → c ≡ Marked End
close_none k (Marked End) h = refl
close_none k (Marked (SyncLost byte)) h = absurd cc
close_none k (Marked (BadElement frame fault)) h = absurd cc
close_none k (Marked (Truncated byte)) h = absurd cc
close_none k (Marked TooLarge) h = absurd cc
close_none k Unread h = absurd cc

pub end_none : (k : ℕ) (q : Result Piece SpliceFault) → end_event k q ≡ None → (p : Piece) × (q ≡ Ok p)
end_none k (Ok p) h = (p, refl)
end_none k (Err e) h = absurd cc

pub order_none : (q : Result (Unit {0}) PlanFault) → order_event q ≡ None → q ≡ Ok tt
order_none (Ok tt) h = refl
order_none (Err e) h = absurd cc

-- ---- one file

abbrev part_in : FileScript → Piece → Part
part_in s p = record { stream = coded_of s; from = p.from; to = p.to }

pub file_gives : (warm : UsacConfig → ℕ) (a : Asked) (s : FileScript) → file_event warm a s ≡ None → (s.close ≡ Marked End) × ((p : Piece) × GivesPiece warm a (coded_of s) p)
file_gives warm a s h =
    let x = first_none _ _ h in
    let y = first_none _ _ x.1 in
    let p = end_none a.piece _ y.1 in
    (close_none a.piece s.close y.0, (p.0, record { passes = rule_none a.piece _ x.0; ends = p.1 }))

pub gives_none : (warm : UsacConfig → ℕ) (a : Asked) (s : FileScript) (p : Piece) → s.close ≡ Marked End → GivesPiece warm a (coded_of s) p → file_event warm a s ≡ None
gives_none warm a s p ends g =
    both_none _ _ (ap (rule_event a.piece) g.passes) (both_none _ _ (ap (close_event a.piece) ends) (ap (end_event a.piece) g.ends))

-- ---- all files

abbrev Ended : List FileScript → Type 0
Ended ss = map (λ s. s.close) ss ≡ map (λ s. Marked End) ss

-- the parts that the files give
record Given (warm : UsacConfig → ℕ) (k : ℕ) (before : Option UsacConfig) (ats : List ℕ) (ss : List FileScript) : Type 0 where
  parts : List Part
  streams : map (λ p. p.stream) parts ≡ map coded_of ss
  ended : Ended ss
  give : GiveParts warm k before ats parts

module _ (warm : UsacConfig → ℕ) where
  none_given : (k : ℕ) (before : Option UsacConfig) (ats : List ℕ) (ss : List FileScript) → length ats ≡ length ss → files_event warm k before ats ss ≡ None → Given warm k before ats ss
  none_given k before [] [] n h = record { parts = []; streams = refl; ended = refl; give = tt }
  none_given k before [] (s ∷ ss) n h = absurd (omega (arith, n))
  none_given k before (x ∷ ats) [] n h = absurd (omega (arith, n))
  none_given k before (x ∷ ats) (s ∷ ss) n h =
      let both = first_none _ _ h in
      let here = file_gives warm (asked k x (first_position ats) before) s both.0 in
      let more = none_given (k + 1) (stream_config (coded_of s)) ats ss (omega (arith, n)) both.1 in
      let closes : List FileScript → List Close = map (λ y. y.close) in
      record {
        parts = part_in s here.1.0 ∷ more.parts;
        streams = ap (λ (xs : List (List Coded)). coded_of s ∷ xs) more.streams;
        ended = ap (λ (c : Close). c ∷ closes ss) here.0 ∙ ap (λ (cs : List Close). Marked End ∷ cs) more.ended;
        give = (here.1.1, more.give);
      }

  given_none : (k : ℕ) (before : Option UsacConfig) (ats : List ℕ) (ss : List FileScript) (ps : List Part) → map (λ p. p.stream) ps ≡ map coded_of ss → Ended ss → GiveParts warm k before ats ps → files_event warm k before ats ss ≡ None
  given_none k before [] ss ps e ended g = refl
  given_none k before (x ∷ ats) [] ps e ended g = refl
  given_none k before (x ∷ ats) (s ∷ ss) [] e ended g = absurd g
  given_none k before (x ∷ ats) (s ∷ ss) (p ∷ ps) e ended g =
      let stream : p.stream ≡ coded_of s = cc in
      let more : map (λ q. q.stream) ps ≡ map coded_of ss = cc in
      let close : s.close ≡ Marked End = cc in
      let later : Ended ss = cc in
      let a = asked k x (first_position ats) before in
      let piece : Piece = record { from = p.from; to = p.to } in
      both_none _ _ (gives_none warm a s piece close (subst (λ (fs : List Coded). GivesPiece warm a fs piece) stream g.0))
      (given_none (k + 1) (stream_config (coded_of s)) ats ss ps more later (subst (λ (fs : List Coded). GiveParts warm (k + 1) (stream_config fs) ats ps) stream g.1))

-- ---- scripts of texts

abbrev AreFine : List Coded → Type 0
AreFine fs = All (λ f. IsWellFormed f.config) fs

pub scripts_fine : (texts : List (List ℕ)) (ss : List FileScript) (ps : List Part) → AreScripts texts ss → map (λ p. p.stream) ps ≡ map coded_of ss → All (λ p. AreFine p.stream) ps
scripts_fine texts ss [] are e = All-nil (λ p. AreFine p.stream)
scripts_fine [] [] (p ∷ ps) are e = absurd cc
scripts_fine [] (s ∷ ss) (p ∷ ps) are e = absurd are
scripts_fine (text ∷ texts) [] (p ∷ ps) are e = absurd are
scripts_fine (text ∷ texts) (s ∷ ss) (p ∷ ps) are e =
    let stream : p.stream ≡ coded_of s = cc in
    let more : map (λ q. q.stream) ps ≡ map coded_of ss = cc in
    All-cons (λ q. AreFine q.stream) p ps (subst AreFine (sym stream) (script_fine text s.frames are.0.0 are.0.2)) (scripts_fine texts ss ps are.1 more)

scripts_many : (texts : List (List ℕ)) (ss : List FileScript) → AreScripts texts ss → length ss ≡ length texts
scripts_many [] [] are = refl
scripts_many [] (s ∷ ss) are = absurd are
scripts_many (text ∷ texts) [] are = absurd are
scripts_many (text ∷ texts) (s ∷ ss) are = omega (arith, scripts_many texts ss are.1)

-- ---- the law

module _ (orders : JudgesOrder) (plans : GiveSoundPlans) where
  pub no_event_is_a_plan : NoEventIsAPlan
  no_event_is_a_plan warm positions texts ss are n = (planned, unplanned)
    where
      planned : first_event warm positions ss ≡ None → ArePlanned warm positions ss
      planned h =
          let both = first_none _ _ h in
          let rise = (orders.rises positions).0 (order_none (order_result positions) both.0) in
          let g = none_given warm 0 None positions ss (n ∙ sym (scripts_many texts ss are)) both.1 in
          let sound = (plans warm positions g.parts rise (scripts_fine texts ss g.parts are g.streams)).0 g.give in
          record { parts = g.parts; streams = g.streams; ended = g.ended; rise = rise; sound = sound.0; timed = sound.1 }

      unplanned : ArePlanned warm positions ss → first_event warm positions ss ≡ None
      unplanned p =
          let give = (plans warm positions p.parts p.rise (scripts_fine texts ss p.parts are p.streams)).1 (p.sound, p.timed) in
          both_none _ _ (ap order_event ((orders.rises positions).1 p.rise)) (given_none warm 0 None positions ss p.parts p.streams p.ended give)
