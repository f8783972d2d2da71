-- What was given out so far is the splice of a sound plan.
use Rattle.std.proofs.Common.{◌≡◌, ℕ, zero, suc, ◌+◌, ◌≤◌, List, [], ◌∷◌, ◌++◌, length, map, take, drop, Option, Some, None, refl, ap, sym, subst, ◌∙◌, arith}
use Rattle.std.specs.List.Sorted.{IsStrictlyIncreasing}
use Rattle.std.proofs.lemmas.Grind.{flat_map-append}
use Rattle.std.proofs.lemmas.List.{append-nil, length-take, length-drop}
use Rattle.std.proofs.lemmas.List.Elements.{All-head, All-tail}
use Rattle.layout.specs.Layout.{FitsOption}
use Rattle.usac_cfg.specs.declared.usac_config.UsacConfig.{UsacConfig}
use Rattle.usac_cfg.specs.UsacConfig.{IsWellFormed}
use Rattle.timeline.specs.declared.piece.Piece.{Piece}
use Rattle.timeline.specs.Plan.{first_position}
use Rattle.plans.specs.Coded.{Coded}
use Rattle.plans.specs.WholeStream.{IsWholeStream, stream_config}
use Rattle.plans.specs.Parts.{Part, part_frames, spliced}
use Rattle.plans.specs.SoundPlan.{AreJoined, IsSoundPlan}
use Rattle.splicer.specs.declared.asked.Asked.{Asked}
use Rattle.splicer.specs.Rules.{from_of}
use Rattle.splicer.specs.Runs.{new_run}
use Rattle.splicer.specs.Pieces.{fault_over, Rises, asked, given}
use Rattle.splicer.specs.SoFar.{AsksNext, cut_part, part_where_some, part_given, plan_so_far}
use Rattle.splicer.specs.Laws.{GivesSoundPlansSoFar}
use Rattle.splicer.proofs.Later.{AreWell}
use Rattle.splicer.proofs.Given.{part_ends}
use Rattle.splicer.proofs.Plans.{rises_next, rises_later, well_config, AllWell}
use Rattle.splicer.proofs.Fronts.{frames_cut, given_there, IsSoundBehind, front_sound, cut_sound}

-- ---- frames of a list

take_short : (n : ℕ) (fs : List Coded) → take (length (take n fs)) fs ≡ take n fs
take_short zero fs = refl
take_short (suc n) [] = refl
take_short (suc n) (f ∷ fs) = let e : length (f ∷ take n fs) ≡ suc (length (take n fs)) = omega arith in ap (λ (k : ℕ). take k (f ∷ fs)) e ∙ ap (λ gs. f ∷ gs) (take_short n fs)

take_within : (n : ℕ) (fs : List Coded) → length (take n fs) ≤ length fs
take_within n fs = let e = length-take n fs in omega (arith, e)

-- where frames end of which some are behind a number
ends_at : (from n : ℕ) (fs : List Coded) (g : Coded) (gs : List Coded) → g ∷ gs ≡ drop from (take n fs) → from + length (g ∷ gs) ≡ length (take n fs)
ends_at from n fs g gs e =
    let long = ap (λ (xs : List Coded). length xs) e in
    let less = length-drop from (take n fs) in
    let some : length (g ∷ gs) ≡ 1 + length gs = omega arith in
    omega (arith, long, less, some)

-- the splice of cut parts
pub spliced_cut : (ps : List Part) → spliced (map cut_part ps) ≡ spliced ps
spliced_cut [] = refl
spliced_cut (p ∷ ps) = ap (λ (xs : List Coded). xs ++ spliced (map cut_part ps)) (frames_cut p) ∙ ap (λ (xs : List Coded). part_frames p ++ xs) (spliced_cut ps)

module _ (warm : UsacConfig → ℕ) where
  -- ---- the rendition under way

  -- at most one part, which is sound behind a stream of that configuration
  abbrev IsOneBehind : Option UsacConfig → List Part → Type 0
  IsOneBehind before [] = Unit {0}
  IsOneBehind before (p ∷ []) = IsSoundBehind warm before p
  IsOneBehind before (p ∷ q ∷ ps) = ⊥

  one_joined : (b : UsacConfig) (ps : List Part) → IsOneBehind (Some b) ps → AreJoined warm (Some b) ps
  one_joined b [] h = tt
  one_joined b (p ∷ []) h = (h.0, h.1.0, h.1.1, tt)
  one_joined b (p ∷ q ∷ ps) h = absurd h

  one_planned : (ps : List Part) → IsOneBehind None ps → IsSoundPlan warm ps
  one_planned [] h = tt
  one_planned (p ∷ []) h = (h.0, h.1, tt)
  one_planned (p ∷ q ∷ ps) h = absurd h

  module _ (a : Asked) (f : Coded) (rest : List Coded) (e : fault_over warm (new_run a) (f ∷ rest) ≡ None) (well : AreWell (f ∷ rest)) (before : FitsOption IsWellFormed a.before) (top : ℕ) where
    some_given : (gs : List Coded) → gs ≡ drop (from_of a f.config) (take top (f ∷ rest))
        → IsOneBehind a.before (part_where_some (f ∷ rest) (from_of a f.config) gs) × (spliced (part_where_some (f ∷ rest) (from_of a f.config) gs) ≡ gs)
    some_given [] is = (tt, refl)
    some_given (g ∷ gs) is =
        let from = from_of a f.config in
        let to = from + length (g ∷ gs) in
        let long : to ≡ length (take top (f ∷ rest)) = ends_at from top (f ∷ rest) g gs is in
        let within = take_within top (f ∷ rest) in
        let p : Part = record { stream = f ∷ rest; from = from; to = to } in
        let cut : take to (f ∷ rest) ≡ take top (f ∷ rest) = ap (λ (k : ℕ). take k (f ∷ rest)) long ∙ take_short top (f ∷ rest) in
        let frames : part_frames (cut_part p) ≡ g ∷ gs = frames_cut p ∙ (part_ends from to (f ∷ rest) ∙ (ap (drop from) cut ∙ sym is)) in
        (front_sound warm a f rest e well before from to refl (omega arith) (omega (arith, long, within)), append-nil (part_frames (cut_part p)) ∙ frames)

  -- what was given of it
  one_given : (a : Asked) (fs : List Coded) → fault_over warm (new_run a) fs ≡ None → AreWell fs → FitsOption IsWellFormed a.before → Rises a.position a.until
      → IsOneBehind a.before (part_given a fs) × (spliced (part_given a fs) ≡ given (new_run a) fs)
  one_given a [] e well before r = (tt, refl)
  one_given a (f ∷ rest) e well before r = let t = given_there warm a f rest e well r in some_given a f rest e well before t.0 (given (new_run a) (f ∷ rest)) t.2

  -- ---- renditions one after another

  module _ (a : Asked) (fs : List Coded) (e : fault_over warm (new_run a) fs ≡ None) (fs_well : AreWell fs) where
    abbrev AllGiven : Type 0
    AllGiven = spliced (part_given a fs) ≡ given (new_run a) fs

    -- the rendition under way, of which it is known what is asked
    one_asked : (b : Asked) → a ≡ b → FitsOption IsWellFormed b.before → Rises b.position b.until → IsOneBehind b.before (part_given a fs) × AllGiven
    one_asked b is =
        let P : Asked → Type 0 = λ x. FitsOption IsWellFormed x.before → Rises x.position x.until → IsOneBehind x.before (part_given a fs) × AllGiven in
        subst P is (one_given a fs e fs_well)

    joined_so_far : (k : ℕ) (gs : List Coded) (ats : List ℕ) (ps : List Part) → IsWholeStream gs → AreWell gs → IsStrictlyIncreasing ats → AllWell ps → AsksNext warm k (stream_config gs) ats ps a
        → AreJoined warm (stream_config gs) (plan_so_far ps a fs) × AllGiven
    joined_so_far k gs [] ps s w r all h = absurd h
    joined_so_far k [] (at ∷ ats) ps s w r all h = absurd s
    joined_so_far k (g ∷ gs) (at ∷ ats) [] s w r all h =
        let one = one_asked (asked k at (first_position ats) (Some g.config)) h (well_config (g ∷ gs) w) (rises_next at ats r) in
        (one_joined g.config (part_given a fs) one.0, one.1)
    joined_so_far k (g ∷ gs) (at ∷ ats) (p ∷ ps) s w r all h =
        let well = All-head (λ (q : Part). AreWell q.stream) p ps all in
        let piece : Piece = record { from = p.from; to = p.to } in
        let cut = cut_sound warm (asked k at (first_position ats) (Some g.config)) p.stream piece well (well_config (g ∷ gs) w) (rises_next at ats r) h.0 in
        let more = joined_so_far (k + 1) p.stream ats ps cut.whole well (rises_later at ats r) (All-tail (λ (q : Part). AreWell q.stream) p ps all) h.1 in
        let P : Option UsacConfig → Type 0 = λ c. AreJoined warm c (plan_so_far ps a fs) in
        ((cut.sound.0, cut.sound.1.0, cut.sound.1.1, subst P (sym cut.config) more.0), more.1)

    planned_so_far : (ats : List ℕ) (ps : List Part) → IsStrictlyIncreasing ats → AllWell ps → AsksNext warm 0 None ats ps a → IsSoundPlan warm (plan_so_far ps a fs) × AllGiven
    planned_so_far [] ps r all h = absurd h
    planned_so_far (at ∷ ats) [] r all h =
        let one = one_asked (asked 0 at (first_position ats) None) h tt (rises_next at ats r) in
        (one_planned (part_given a fs) one.0, one.1)
    planned_so_far (at ∷ ats) (p ∷ ps) r all h =
        let well = All-head (λ (q : Part). AreWell q.stream) p ps all in
        let piece : Piece = record { from = p.from; to = p.to } in
        let cut = cut_sound warm (asked 0 at (first_position ats) None) p.stream piece well tt (rises_next at ats r) h.0 in
        let more = joined_so_far 1 p.stream ats ps cut.whole well (rises_later at ats r) (All-tail (λ (q : Part). AreWell q.stream) p ps all) h.1 in
        let P : Option UsacConfig → Type 0 = λ c. AreJoined warm c (plan_so_far ps a fs) in
        ((cut.sound.0, cut.sound.1, subst P (sym cut.config) more.0), more.1)

pub gives_sound_plans_so_far : GivesSoundPlansSoFar
gives_sound_plans_so_far warm ats ps a fs r all well h e =
    let plan = planned_so_far warm a fs e well ats ps r all h in
    (plan.0, flat_map-append part_frames (map cut_part ps) (part_given a fs) ∙ (ap (λ (xs : List Coded). xs ++ spliced (part_given a fs)) (spliced_cut ps) ∙ ap (λ (xs : List Coded). spliced ps ++ xs) plan.1))
