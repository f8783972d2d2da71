-- What is given of one file, and the part that it is.
use Rattle.std.proofs.Common.{◌≡◌, ℕ, ◌+◌, ◌-◌, ◌/◌, ◌≤◌, ◌<◌, List, [], ◌∷◌, length, map, take, Option, Some, None, refl, sym, ap, ◌∙◌, arith}
use Rattle.std.specs.Prelude.{slice_range}
use Rattle.std.proofs.lemmas.List.{length-drop, length-take-le}
use Rattle.std.proofs.lemmas.List.Elements.{All-head, All-tail, All-cons, All-nil}
use Rattle.std.proofs.Math.Nat.{mul-div_cancel}
use Rattle.layout.specs.Layout.{FitsOption}
use Rattle.usac_cfg.specs.declared.usac_config.UsacConfig.{UsacConfig}
use Rattle.usac_cfg.specs.UsacConfig.{IsWellFormed, frame_length}
use Rattle.timeline.specs.declared.piece.Piece.{Piece}
use Rattle.plans.specs.Coded.{Coded}
use Rattle.splicer.specs.declared.asked.Asked.{Asked}
use Rattle.splicer.specs.declared.fault.SpliceFault.{SpliceFault}
use Rattle.splicer.specs.Rules.{from_of}
use Rattle.splicer.specs.Runs.{RunValue, new_run, fault, behind}
use Rattle.splicer.specs.Pieces.{fault_over, GivesPiece, part_of, IsSoundPiece, Rises, given}
use Rattle.splicer.specs.SoFar.{part_up_to, cut_part, part_where_some, part_given}
use Rattle.splicer.proofs.Given.{gives_frames, part_ends}
use Rattle.splicer.proofs.Joining.{or_first, or_second, or_both}
use Rattle.splicer.proofs.Later.{AreWell}
use Rattle.splicer.proofs.Pieces.{gives_sound_pieces}
use Rattle.splicer.proofs.Refusals.{some_length}
use Rattle.au_stream.specs.Frames.{Frame, config_of}
use Rattle.playing.specs.Spliced.{coded}
use Rattle.joining.specs.SpliceEvents.{unless}
use Rattle.joining.proofs.SpliceEvents.{unless_none}
use Rattle.switching.specs.CutShort.{unbroken}

-- ---- frames that break no rule

module _ (warm : UsacConfig → ℕ) where
  pub all_unbroken : (v : RunValue) (fs : List Frame) → fault_over warm v (map coded fs) ≡ None → unbroken warm v fs ≡ fs
  all_unbroken v [] h = refl
  all_unbroken v (f ∷ fs) h =
      let x = fault v (warm (config_of f)) (coded f) in
      unless_none x _ (or_first x _ h) ∙ ap (λ (gs : List Frame). f ∷ gs) (all_unbroken (behind v (coded f)) fs (or_second x _ h))

  pub unbroken_passes : (v : RunValue) (fs : List Frame) → fault_over warm v (map coded (unbroken warm v fs)) ≡ None
  unbroken_passes v [] = refl
  unbroken_passes v (f ∷ fs) = by_fault (fault v (warm (config_of f)) (coded f)) refl (unbroken_passes (behind v (coded f)) fs)
    where
      by_fault : (o : Option SpliceFault) → fault v (warm (config_of f)) (coded f) ≡ o → fault_over warm (behind v (coded f)) (map coded (unbroken warm (behind v (coded f)) fs)) ≡ None
          → fault_over warm v (map coded (unless o (f ∷ unbroken warm (behind v (coded f)) fs))) ≡ None
      by_fault None e more = or_both (fault v (warm (config_of f)) (coded f)) _ e more
      by_fault (Some x) e more = refl

  pub unbroken_fine : (v : RunValue) (fs : List Frame) → AreWell (map coded fs) → AreWell (map coded (unbroken warm v fs))
  unbroken_fine v [] w = w
  unbroken_fine v (f ∷ fs) w =
      let Well : Coded → Type 0 = λ g. IsWellFormed g.config in
      by_fault (fault v (warm (config_of f)) (coded f)) (All-cons Well (coded f) _ (All-head Well (coded f) (map coded fs) w) (unbroken_fine (behind v (coded f)) fs (All-tail Well (coded f) (map coded fs) w)))
    where
      by_fault : (o : Option SpliceFault) → AreWell (map coded (f ∷ unbroken warm (behind v (coded f)) fs)) → AreWell (map coded (unless o (f ∷ unbroken warm (behind v (coded f)) fs)))
      by_fault None more = more
      by_fault (Some x) more = All-nil (λ (g : Coded). IsWellFormed g.config)

-- ---- a rendition that gives its piece

-- how many frames there are from one number up to another
long : (fs : List Coded) (from to : ℕ) (gs : List Coded) → gs ≡ slice_range fs from to → to ≤ length fs → length gs ≡ to - from
long fs from to gs is high =
    let n = ap (λ (xs : List Coded). length xs) (is ∙ part_ends from to fs) in
    let some = length-take-le to fs high in
    let less = length-drop from (take to fs) in
    omega (arith, n, some, less)

-- where frames end of which these are all
ends_with : (fs : List Coded) (from to : ℕ) (gs : List Coded) → gs ≡ slice_range fs from to → from < to → to ≤ length fs → part_where_some fs from gs ≡ part_up_to fs from to ∷ []
ends_with fs from to [] is low high = let n = long fs from to [] is high in absurd (omega (arith, n, low))
ends_with fs from to (g ∷ gs) is low high =
    let n = long fs from to (g ∷ gs) is high in
    let e : from + length (g ∷ gs) ≡ to = omega (arith, n, low) in
    ap (λ (k : ℕ). part_up_to fs from k ∷ []) e

-- all that was given of it is the piece, and its stream ends with it
pub part_all : (warm : UsacConfig → ℕ) (a : Asked) (fs : List Coded) (p : Piece) → FitsOption IsWellFormed a.before → Rises a.position a.until → AreWell fs → GivesPiece warm a fs p → part_given a fs ≡ cut_part (part_of fs p) ∷ []
part_all warm a fs p before rises well gives = by_frames fs well gives ((gives_sound_pieces warm a fs p before rises well).0 gives)
  where
    by_frames : (fs : List Coded) → AreWell fs → GivesPiece warm a fs p → IsSoundPiece warm a fs p → part_given a fs ≡ cut_part (part_of fs p) ∷ []
    by_frames [] well g s = absurd s.part.stream
    by_frames (f ∷ rest) well g s =
        let some = some_length f.config (All-head (λ (x : Coded). IsWellFormed x.config) f rest well) in
        let is : from_of a f.config ≡ p.from = ap (λ (x : ℕ). x / frame_length f.config) (sym s.timed.begins) ∙ mul-div_cancel p.from some in
        ap (λ (k : ℕ). part_where_some (f ∷ rest) k (given (new_run a) (f ∷ rest))) is
        ∙ ends_with (f ∷ rest) p.from p.to (given (new_run a) (f ∷ rest)) (gives_frames warm a (f ∷ rest) p before rises well g) s.part.some s.part.within
