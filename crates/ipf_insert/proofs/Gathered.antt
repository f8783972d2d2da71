-- The access units of a stream, element after element.
use Rattle.std.proofs.Common.{◌≡◌, ℕ, zero, suc, ◌+◌, ◌<◌, ◌≤◌, Bool, List, [], ◌∷◌, ◌++◌, length, map, drop, get_or, Option, Some, None, refl, sym, ap, ◌∙◌, append_assoc, append-nil, arith}
use Rattle.std.proofs.lemmas.List.{length-append, length-map, drop_more}
use Rattle.usac_cfg.specs.declared.usac_config.UsacConfig.{UsacConfig}
use Rattle.latm.specs.declared.mux_config.MuxConfig.{MuxConfig}
use Rattle.latm.specs.declared.mux_element.MuxElement.{MuxElement}
use Rattle.latm.specs.MuxElement.{then_in_force}
use Rattle.latm.specs.Stream.{slots_under, slots_from, au_in}
use Rattle.ipf_frame.specs.Laws.{AreSlots}
use Rattle.ipf_insert.specs.declared.fault.InsertFault.{InsertFault}
use Rattle.ipf_insert.specs.Rules.{or_then, frames_rule}
use Rattle.ipf_insert.specs.Steps.{IfRule, AreSmall, IsSame, frames_where, with_config}
use Rattle.ipf_insert.proofs.Elements.{map_both}
use Rattle.ipf_insert.proofs.Frames.{where_is, frames_both}
use Rattle.ipf_insert.proofs.Targets.{on_rule}

pub small_only : (slots : List (List ℕ)) → AreSlots slots → AreSmall slots
small_only [] h = tt
small_only (au ∷ slots) h = (h.0.0, small_only slots h.1)

nothing : (xs : List (List ℕ)) (k : ℕ) → length xs ≤ k → drop k xs ≡ []
nothing [] zero le = refl
nothing [] (suc k) le = refl
nothing (x ∷ xs) zero le = absurd (omega (arith, le))
nothing (x ∷ xs) (suc k) le = nothing xs k (omega (arith, le))

aus_with : (c : UsacConfig) (slots : List (List ℕ)) → map au_in (with_config c slots) ≡ slots
aus_with c [] = refl
aus_with c (au ∷ slots) = ap (λ (xs : List (List ℕ)). au ∷ xs) (aus_with c slots)

-- all slots of an element were added
pub gathered : (b : Bool) (c : UsacConfig) (old now slots : List (List ℕ)) (k : ℕ) → length slots ≤ k → frames_where b (length now) (with_config c (drop k slots)) ≡ frames_where b (length old) (with_config c slots) → now ++ drop k slots ≡ old ++ slots
    → (frames_where b (length old) (with_config c slots) ≡ None) × (now ≡ old ++ map au_in (with_config c slots))
gathered b c old now slots k le so_far all =
    let none = nothing slots k le in (
      sym so_far ∙ ap (λ (xs : List (List ℕ)). frames_where b (length now) (with_config c xs)) none,
      sym (append-nil now) ∙ ap (λ (xs : List (List ℕ)). now ++ xs) (sym none) ∙ all ∙ ap (λ (xs : List (List ℕ)). old ++ xs) (sym (aus_with c slots)),
    )

pub split : (es : List MuxElement) (k : ℕ) (e : MuxElement) → k < length es → e ≡ get_or es k e → drop k es ≡ e ∷ drop (k + 1) es
split es k e lt is = drop_more es k e lt ∙ ap (λ (x : MuxElement). x ∷ drop (k + 1) es) (sym is)

-- one element on
module _ (first : UsacConfig) (before own : Option MuxConfig) (es : List MuxElement) (e : MuxElement) (behind : List MuxElement) (b : Bool) (old : List (List ℕ)) (cut : es ≡ e ∷ behind) (force : own ≡ then_in_force before e.config) (is : IsSame b first own) where
  abbrev own_frames : List (UsacConfig × List ℕ)
  own_frames = slots_under own e.slots

  frames_are : slots_from before es ≡ own_frames ++ slots_from own behind
  frames_are = ap (λ (xs : List MuxElement). slots_from before xs) cut ∙ ap (λ (o : Option MuxConfig). slots_under o e.slots ++ slots_from o behind) (sym force)

  rule_on : frames_rule first (length old) (slots_from before es) ≡ or_then (frames_where b (length old) own_frames) (frames_rule first (length old + length own_frames) (slots_from own behind))
  rule_on =
      ap (λ (fs : List (UsacConfig × List ℕ)). frames_rule first (length old) fs) frames_are
      ∙ frames_both first (length old) own_frames (slots_from own behind)
      ∙ ap (λ (o : Option InsertFault). or_then o (frames_rule first (length old + length own_frames) (slots_from own behind))) (where_is b first own (length old) e.slots is)

  pub refused_on : (f : InsertFault) (all : Option InsertFault) → frames_rule first (length old) (slots_from before es) ≡ all → IfRule f (frames_where b (length old) own_frames ≡ Some f) → IfRule f (all ≡ Some f)
  refused_on f all so_far h =
      on_rule f (frames_where b (length old) own_frames ≡ Some f) (all ≡ Some f)
      (λ q. sym so_far ∙ rule_on ∙ ap (λ (o : Option InsertFault). or_then o (frames_rule first (length old + length own_frames) (slots_from own behind))) q) h

  pub passes_on : (new : List (List ℕ)) (all : Option InsertFault) → frames_rule first (length old) (slots_from before es) ≡ all → frames_where b (length old) own_frames ≡ None → new ≡ old ++ map au_in own_frames
      → frames_rule first (length new) (slots_from own behind) ≡ all
  passes_on new all so_far none added =
      let long : length new ≡ length old + length own_frames = ap (λ (xs : List (List ℕ)). length xs) added ∙ length-append old (map au_in own_frames) ∙ ap (λ (n : ℕ). length old + n) (length-map own_frames au_in) in
      ap (λ (n : ℕ). frames_rule first n (slots_from own behind)) long
      ∙ sym (rule_on ∙ ap (λ (o : Option InsertFault). or_then o (frames_rule first (length old + length own_frames) (slots_from own behind))) none)
      ∙ so_far

  pub added_on : (new all : List (List ℕ)) → old ++ map au_in (slots_from before es) ≡ all → new ≡ old ++ map au_in own_frames → new ++ map au_in (slots_from own behind) ≡ all
  added_on new all so_far added =
      ap (λ (xs : List (List ℕ)). xs ++ map au_in (slots_from own behind)) added
      ∙ append_assoc old (map au_in own_frames) (map au_in (slots_from own behind))
      ∙ ap (λ (xs : List (List ℕ)). old ++ xs) (sym (ap (λ (fs : List (UsacConfig × List ℕ)). map au_in fs) frames_are ∙ map_both own_frames (slots_from own behind)))
      ∙ so_far
