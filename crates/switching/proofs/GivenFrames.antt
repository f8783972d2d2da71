-- The frames of a rendition that are given out.
use Rattle.std.proofs.Common.{◌≡◌, Bool, true, false, List, [], ◌∷◌, ◌++◌, map, refl, sym, ap, ◌∙◌, append_assoc}
use Rattle.std.proofs.lemmas.List.{append-nil}
use Rattle.plans.specs.Coded.{Coded}
use Rattle.splicer.specs.Pieces.{is_given}
use Rattle.splicer.specs.Pieces.{given as given_of, given_if as given_of_if}
use Rattle.splicer.specs.Runs.{RunValue, new_run, turn, behind, run_over}
use Rattle.au_stream.specs.Frames.{Frame}
use Rattle.playing.specs.Spliced.{coded}
use Rattle.joining.specs.Renditions.{asked_at}
use Rattle.switching.specs.Switching.{SwitchAt, given, given_if, given_at, given_so_far, is_given_at}

given_more : (b : Bool) (g : Frame) (xs ys : List Frame) → given_if b g (xs ++ ys) ≡ given_if b g xs ++ ys
given_more true g xs ys = refl
given_more false g xs ys = refl

given_push : (v : RunValue) (fs : List Frame) (f : Frame) → given v (fs ++ f ∷ []) ≡ given v fs ++ given_if (is_given (turn (run_over v (map coded fs)) (coded f))) f []
given_push v [] f = refl
given_push v (g ∷ fs) f =
    ap (given_if (is_given (turn v (coded g))) g) (given_push (behind v (coded g)) fs f)
    ∙ given_more (is_given (turn v (coded g))) g (given (behind v (coded g)) fs) (given_if (is_given (turn (run_over (behind v (coded g)) (map coded fs)) (coded f))) f [])

coded_if : (b : Bool) (f : Frame) (fs : List Frame) (xs : List Coded) → map coded fs ≡ xs → map coded (given_if b f fs) ≡ given_of_if b (coded f) xs
coded_if true f fs xs h = ap (λ (ys : List Coded). coded f ∷ ys) h
coded_if false f fs xs h = h

-- as the check says of access units
pub coded_given : (v : RunValue) (fs : List Frame) → map coded (given v fs) ≡ given_of v (map coded fs)
coded_given v [] = refl
coded_given v (f ∷ fs) = coded_if (is_given (turn v (coded f))) f (given (behind v (coded f)) fs) (given_of (behind v (coded f)) (map coded fs)) (coded_given (behind v (coded f)) fs)

module _ (at : SwitchAt) (before : List Frame) (f : Frame) where
  -- a frame of the piece
  pub given_here : is_given_at at before f ≡ true → given_at at (before ++ f ∷ []) ≡ given_at at before ++ f ∷ []
  given_here e = given_push (new_run (asked_at at.piece)) before f ∙ ap (λ (b : Bool). given_at at before ++ given_if b f []) e

  pub given_one : is_given_at at before f ≡ true → given_so_far at (before ++ f ∷ []) ≡ given_so_far at before ++ f ∷ []
  given_one e = ap (λ (xs : List Frame). at.earlier ++ xs) (given_here e) ∙ sym (append_assoc at.earlier (given_at at before) (f ∷ []))

  -- a frame that is not of the piece
  pub given_none : is_given_at at before f ≡ false → given_at at (before ++ f ∷ []) ≡ given_at at before
  given_none e = given_push (new_run (asked_at at.piece)) before f ∙ (ap (λ (b : Bool). given_at at before ++ given_if b f []) e ∙ append-nil (given_at at before))
