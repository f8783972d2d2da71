-- A start at a warm frame of a whole stream gives the stream's own blocks from there on.
use Rattle.std.proofs.Common.{◌≡◌, ◌≤◌, List, [], ◌∷◌, length, map, Some, ap, sym, subst, ◌∙◌, inr}
use Rattle.std.specs.Prelude.{slice_range}
use Rattle.std.proofs.lemmas.List.{append-nil}
use Rattle.preroll.specs.Carrying.{Carried}
use Rattle.core_iface.specs.Decoding.{Definitions}
use Rattle.core_iface.specs.Laws.{StaysSound, WarmsUp}
use Rattle.plans.specs.Coded.{Coded, coded_shown, CarriesUnits}
use Rattle.plans.specs.Parts.{part_frames}
use Rattle.plans.specs.OwnPlan.{own_plan}
use Rattle.switch_player.specs.declared.turn.Turn.TheVariants.{Start}
use Rattle.switch_player.specs.Rules.{RefusesAt, TakesBy}
use Rattle.switch_player.specs.Streams.{alone}
use Rattle.switch_player.specs.Cuts.{cut_plan}
use Rattle.switch_player.specs.Splices.{TakesFrames, TakesFramesAt}
use Rattle.switch_player.specs.Laws.{StartsSoundly}
use Rattle.switch_player.proofs.Taken.{start_taken}
use Rattle.switch_player.proofs.SplicesTaken.{Head, head, goes_on, same_some, code_value}
use Rattle.switch_player.proofs.Converging.{splices_converge}

warm_taken : (d : Definitions) (f : Coded) (k : Carried) → CarriesUnits f k → d.warm f.config ≤ length k.units → TakesBy (RefusesAt d f.config f.au)
unfolding code_value
warm_taken d f k h enough = start_taken d f.config f.au h.frame (Start (Some (code_value f.config h.frame k h.carries))) h.is (h.carries, enough)

pub starts_soundly : (d : Definitions) → StaysSound d → WarmsUp d → StartsSoundly d
starts_soundly d stays warms p piece w = record { takes = takes; blocks = blocks }
  where
    h : Head p
    h = head p piece

    is : w.frame ≡ h.frame
    is = same_some w.frame h.frame (sym w.first ∙ h.first)

    takes : TakesFramesAt d (part_frames p)
    takes =
        let first = warm_taken d h.frame w.carried (subst (λ (f : Coded). CarriesUnits f w.carried) is w.carries) (subst (λ (f : Coded). d.warm f.config ≤ length w.carried.units) is w.enough) in
        let later : TakesFrames d (Some h.frame.config) h.rest = subst (TakesFrames d (Some h.frame.config)) (append-nil h.rest) (goes_on d h.frame.config h.rest [] h.one h.are tt) in
        subst (TakesFramesAt d) (sym h.frames) (first, later)

    blocks : cut_plan d (own_plan (part_frames p)) ≡ slice_range (alone d (map coded_shown p.stream)) p.from p.to
    blocks =
        ap (λ (fs : List Coded). cut_plan d (own_plan fs)) (sym (append-nil (part_frames p)))
        ∙ (splices_converge d stays warms (p ∷ []) (piece, inr w, tt) ∙ append-nil (slice_range (alone d (map coded_shown p.stream)) p.from p.to))
