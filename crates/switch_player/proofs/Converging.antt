-- What a sound plan splices is played as the plan is cut.
use Rattle.std.proofs.Common.{◌≡◌, ℕ, ◌+◌, ◌-◌, ◌≤◌, ◌<◌, List, [], ◌∷◌, ◌++◌, length, take, map, Some, None, true, ap, sym, subst, ◌∙◌, arith, ◌⊎◌, inl, inr}
use Rattle.std.specs.Prelude.{slice_get}
use Rattle.std.proofs.lemmas.List.{length-map, take_at}
use Rattle.std.proofs.lemmas.List.Elements.{All-head, All-map, All-weaker, All-take, All-drop, All-same}
use Rattle.usac_cfg.specs.declared.usac_config.UsacConfig.{UsacConfig}
use Rattle.usac_cfg.specs.UsacConfig.{IsWellFormed}
use Rattle.usac_cfg.specs.Same.{same}
use Rattle.usac_cfg.specs.SameFound.{same_equal, same_false}
use Rattle.preroll.specs.Carrying.{Carried, Shown, units_in}
use Rattle.core_iface.specs.Decoding.{Definitions}
use Rattle.core_iface.specs.Laws.{StaysSound, WarmsUp, BeginsIndependent}
use Rattle.plans.specs.Segments.{own}
use Rattle.plans.specs.Laws.{AreOf, Differ}
use Rattle.plans.specs.Coded.{Coded, coded_shown, IsCoded, CarriesUnits}
use Rattle.plans.specs.WholeStream.{IsWholeStream, stream_config}
use Rattle.plans.specs.StreamUnits.{head_of, IsFaithful}
use Rattle.plans.specs.Level.{IsLevel, AreLevel}
use Rattle.plans.specs.Parts.{Part, IsPart, spliced, part_shown}
use Rattle.plans.specs.SoundPlan.{BeginsWarm, AreJoined, IsSoundPlan}
use Rattle.switch_player.specs.Cuts.{cut}
use Rattle.switch_player.specs.Laws.{SplicesConverge}
use Rattle.switch_player.specs.PiecesFound.{Placed, placed_start, place, shape, units_parts, front_long, own_units, config_at}
use Rattle.switch_player.specs.PlaysFound.{AllPlaced, played_pieces}
use Rattle.switch_player.specs.SegmentedFound.{plays_segments}
use Rattle.switch_player.proofs.Lengths.{after_sound}
use Rattle.switch_player.proofs.Warming.{begins_longer, warm_out, warm_drain}
use Rattle.switch_player.proofs.PartsShown.{get_shown, carried_shown, begins_shown, splice_shown, own_shown}

-- the frames of a whole stream show one configuration
one_config : (f : Coded) (fs : List Coded) → IsWholeStream (f ∷ fs) → AreOf f.config (map coded_shown (f ∷ fs))
one_config f fs h =
    All-map (λ (g : Shown). same f.config g.config ≡ true) coded_shown (f ∷ fs)
    (All-weaker (λ (g : Coded). g.config ≡ f.config) (λ (g : Coded). same f.config g.config ≡ true) (λ g e. same_equal f.config g.config (sym e)) (f ∷ fs) h.0)

-- ---- a part that begins warm

module _ (d : Definitions) (stays : StaysSound d) (warms : WarmsUp d) where
  warm_at : (f : Coded) (fs : List Coded) (from to : ℕ) → IsWholeStream (f ∷ fs) → from < to → to ≤ length (map coded_shown (f ∷ fs)) → (x : Coded) (k : Carried) → slice_get (f ∷ fs) from ≡ Some x → CarriesUnits x k → d.warm x.config ≤ length k.units → IsFaithful (map coded_shown (f ∷ fs)) from k
      → Placed d (record { stream = map coded_shown (f ∷ fs); from = from; to = to })
  warm_at f fs from to stream low high x k first carries enough faithful =
      let c = f.config in
      let r = map coded_shown (f ∷ fs) in
      let s = shape r from to low high in
      let e0 : Some (coded_shown x) ≡ Some s.frame = sym (get_shown (f ∷ fs) from x first) ∙ s.first in
      let e : coded_shown x ≡ s.frame = cc in
      let P : Shown → Type 0 = λ g. g.config ≡ c in
      let at : s.frame.config ≡ c =
      All-head P s.frame s.rest (All-same P _ _ (sym s.part) (All-take P (to - from) _ (All-drop P from _ (All-map P coded_shown (f ∷ fs) stream.0)))) in
      let here : x.config ≡ c = ap (λ (g : Shown). g.config) e ∙ at in
      let fine : IsWellFormed c = (All-head IsCoded f fs stream.1).config in
      let before = faithful.0 in
      let ks = units_in s.frame.carried in
      let own : ks ≡ k.units = ap (λ (g : Shown). units_in g.carried) (sym e) ∙ ap units_in (carried_shown x k (subst IsWellFormed (sym here) fine) carries) in
      let parts = units_parts (coded_shown f) (map coded_shown fs) from to in
      let long = front_long (coded_shown f) (map coded_shown fs) from (omega arith) in
      let front : units_in (coded_shown f).carried ++ own_units (take from r) ≡ before ++ ks =
      sym (take_at (units_in (coded_shown f).carried ++ own_units (take from r)) _ (head_of r + from) (sym long))
      ∙ (ap (take (head_of r + from)) (sym parts) ∙ (faithful.1 ∙ ap (λ us. before ++ us) (sym own))) in
      let enough_here : d.warm c ≤ length ks = rw own (subst (λ (y : UsacConfig). d.warm y ≤ length k.units) here enough) in
      let start = stays.start c fine in
      let past = after_sound d stays c fine (d.init c) before start in
      let begins : BeginsIndependent (ks ++ s.frame.unit ∷ []) = rw own (subst (λ (y : Shown). BeginsIndependent (k.units ++ y.unit ∷ [])) e (begins_shown x k carries)) in
      place d (coded_shown f) (map coded_shown fs) from to low high (one_config f fs stream) s before at front
      (warm_out d warms c fine _ _ past start ks (own_units (s.frame ∷ s.rest)) (begins_longer ks (own_units s.rest) s.frame.unit begins) enough_here)
      (warm_drain d warms c fine _ _ past start ks (own_units s.rest) s.frame.unit begins enough_here)

  placed_warm : (p : Part) → IsPart p → BeginsWarm d.warm p → Placed d (part_shown p)
  placed_warm p h w = by_stream p.stream h.stream h.within w.first w.faithful
    where
      by_stream : (fs : List Coded) → IsWholeStream fs → p.to ≤ length fs → slice_get fs p.from ≡ Some w.frame → IsFaithful (map coded_shown fs) p.from w.carried → Placed d (record { stream = map coded_shown fs; from = p.from; to = p.to })
      by_stream [] s high first faithful = absurd s
      by_stream (f ∷ fs) s high first faithful =
          warm_at f fs p.from p.to s h.some (let n = length-map (f ∷ fs) coded_shown in omega (arith, n, high)) w.frame w.carried first w.carries w.enough faithful

  placed_first : (p : Part) → IsPart p → (p.from ≡ 0) ⊎ BeginsWarm d.warm p → Placed d (part_shown p)
  placed_first p h (inl z) = by_stream p.stream h.stream h.within
    where
      by_stream : (fs : List Coded) → IsWholeStream fs → p.to ≤ length fs → Placed d (record { stream = map coded_shown fs; from = p.from; to = p.to })
      by_stream [] s high = absurd s
      by_stream (f ∷ fs) s high =
          placed_start d (coded_shown f) (map coded_shown fs) p.from p.to h.some (let n = length-map (f ∷ fs) coded_shown in omega (arith, n, high)) (one_config f fs s) z
  placed_first p h (inr w) = placed_warm p h w

  -- ---- the parts of a plan

  differ_shown : (fs gs : List Coded) → IsWholeStream fs → IsWholeStream gs → AreLevel (stream_config fs) (stream_config gs) → Differ (config_at (map coded_shown fs)) (config_at (map coded_shown gs))
  differ_shown [] gs v w h = absurd v
  differ_shown (f ∷ fs) [] v w h = absurd w
  differ_shown (f ∷ fs) (g ∷ gs) v w h =
      let level : IsLevel f.config g.config = h in
      same_false f.config g.config (All-head IsCoded f fs v.1).config (All-head IsCoded g gs w.1).config level.other

  placed_behind : (fs : List Coded) (ps : List Part) → IsWholeStream fs → AreJoined d.warm (stream_config fs) ps → AllPlaced d (config_at (map coded_shown fs)) (map part_shown ps)
  placed_behind fs [] w h = tt
  placed_behind fs (p ∷ ps) w h =
      let part = h.0 in
      (differ_shown fs p.stream w part.stream h.1, placed_warm p part h.2, placed_behind p.stream ps part.stream h.3)

  placed_plan : (ps : List Part) → IsSoundPlan d.warm ps → AllPlaced d None (map part_shown ps)
  placed_plan [] h = tt
  placed_plan (p ∷ ps) h = let part = h.0 in (tt, placed_first p part h.1, placed_behind p.stream ps part.stream h.2)

  pub splices_converge : SplicesConverge d
  splices_converge plan h =
      ap (cut d) (own_shown (spliced plan) ∙ ap own (sym (splice_shown plan)))
      ∙ (sym (plays_segments d _) ∙ played_pieces d None (map part_shown plan) (placed_plan plan h))
