-- The segments of frames are all of the frames, in runs of one configuration.
use Rattle.std.proofs.Common.{◌≡◌, List, [], ◌∷◌, ◌++◌, map, Some, None, Bool, true, false, refl, ap, sym, ◌∙◌, arith}
use Rattle.std.specs.Prelude.{if◌then◌else◌}
use Rattle.std.proofs.lemmas.Grind.{common_steps}
use Rattle.std.proofs.lemmas.List.Elements.{All-nil, All-cons, All-weaker}
use Rattle.usac_cfg.specs.Same.{same}
use Rattle.usac_cfg.specs.SameFound.{same_itself, same_replaced}
use Rattle.preroll.specs.Carrying.{Shown}
use Rattle.plans.specs.Plans.{frames_of, splice, whole}
use Rattle.plans.specs.Segments.{before_runs, segments, own}
use Rattle.plans.specs.Laws.{AreOf, AreRuns, AreTheirSegments}

-- ---- the runs

alone_of : (f : Shown) → AreOf f.config (f ∷ [])
alone_of f = All-cons (λ g. same f.config g.config ≡ true) f [] (same_itself f.config) (All-nil (λ g. same f.config g.config ≡ true))

runs_before : (f : Shown) (rs : List (List Shown)) → AreRuns None rs → AreRuns None (before_runs f rs)
runs_before f [] h = (tt, alone_of f, tt)
runs_before f ([] ∷ rs) h = absurd h
runs_before f ((g ∷ gs) ∷ rs) h = by_test (same f.config g.config) refl
  where
    on : same f.config g.config ≡ true → (rs : List (List Shown)) → AreRuns (Some g.config) rs → AreRuns (Some f.config) rs
    on e [] h = tt
    on e ([] ∷ rs) h = absurd h
    on e ((x ∷ xs) ∷ rs) h = (same_replaced f.config g.config x.config e ∙ h.0, h.1, h.2)

    by_test : (b : Bool) → same f.config g.config ≡ b → AreRuns None (if b then (f ∷ g ∷ gs) ∷ rs else (f ∷ []) ∷ (g ∷ gs) ∷ rs)
    by_test true e = (
      tt,
      All-cons (λ x. same f.config x.config ≡ true) f (g ∷ gs) (same_itself f.config) (All-weaker (λ x. same g.config x.config ≡ true) (λ x. same f.config x.config ≡ true) (λ x q. same_replaced f.config g.config x.config e ∙ q) (g ∷ gs) h.1),
      on e rs h.2,
    )
    by_test false e = (tt, alone_of f, (e, h.1, h.2))

pub runs_of : (fs : List Shown) → AreRuns None (segments fs)
runs_of [] = tt
runs_of (f ∷ fs) = runs_before f (segments fs) (runs_of fs)

-- ---- the frames

frames_whole : (fs : List Shown) → frames_of (whole fs) ≡ fs
frames_whole fs = grind (arith, common_steps)

splice_before : (f : Shown) (rs : List (List Shown)) → splice (map whole (before_runs f rs)) ≡ f ∷ splice (map whole rs)
splice_before f [] = ap (λ gs. gs ++ []) (frames_whole (f ∷ []))
splice_before f ([] ∷ rs) =
    ap (λ gs. gs ++ splice (map whole rs)) (frames_whole (f ∷ [])) ∙ ap (λ gs. f ∷ (gs ++ splice (map whole rs))) (sym (frames_whole []))
splice_before f ((g ∷ gs) ∷ rs) = by_test (same f.config g.config)
  where
    by_test : (b : Bool) → splice (map whole (if b then (f ∷ g ∷ gs) ∷ rs else (f ∷ []) ∷ (g ∷ gs) ∷ rs)) ≡ f ∷ splice (map whole ((g ∷ gs) ∷ rs))
    by_test true = ap (λ xs. xs ++ splice (map whole rs)) (frames_whole (f ∷ g ∷ gs)) ∙ ap (λ xs. f ∷ (xs ++ splice (map whole rs))) (sym (frames_whole (g ∷ gs)))
    by_test false = ap (λ xs. xs ++ splice (map whole ((g ∷ gs) ∷ rs))) (frames_whole (f ∷ []))

pub splice_own : (fs : List Shown) → splice (own fs) ≡ fs
splice_own [] = refl
splice_own (f ∷ fs) = splice_before f (segments fs) ∙ ap (λ gs. f ∷ gs) (splice_own fs)

pub are_their_segments : AreTheirSegments
are_their_segments = record { all = splice_own; runs = runs_of }
