-- What the output of a command grows by at a frame.
use Rattle.std.proofs.Common.{◌≡◌, ℕ, ◌+◌, List, [], ◌∷◌, ◌++◌, length, arith, refl, sym, ap, ◌∙◌, append_assoc, lit≤}
use Rattle.std.proofs.lemmas.List.{append-nil}
use Rattle.au_stream.specs.Frames.{Frame}
use Rattle.commands.specs.Commands.{IsCommand, Grows}
use Rattle.xheaac_tool.specs.Showing.{shown_of, shown_from, showing}
use Rattle.xheaac_tool.specs.Checking.{checking}

-- ---- show

shown_push : (number : ℕ) (fs : List Frame) (f : Frame) → shown_from number (fs ++ f ∷ []) ≡ shown_from number fs ++ shown_of (number + length fs) f
shown_push number [] f = append-nil (shown_of number f) ∙ ap (λ (n : ℕ). shown_of n f) (let e : number ≡ number + 0 = omega arith in e)
shown_push number (g ∷ fs) f =
    ap (λ (xs : List ℕ). shown_of number g ++ xs) (shown_push (number + 1) fs f ∙ ap (λ (n : ℕ). shown_from (number + 1) fs ++ shown_of n f) (let e : (number + 1) + length fs ≡ number + length (g ∷ fs) = omega arith in e))
    ∙ sym (append_assoc (shown_of number g) (shown_from (number + 1) fs) (shown_of (number + length (g ∷ fs)) f))

pub show_grows : (before : List Frame) (f : Frame) → Grows showing before f (shown_of (length before) f)
show_grows before f = shown_push 0 before f ∙ ap (λ (n : ℕ). shown_from 0 before ++ shown_of n f) (let e : 0 + length before ≡ length before = omega arith in e)

pub show_command : IsCommand showing
show_command = record { nothing = refl; few = λ before f. lit≤ tt }

-- ---- check

pub check_command : IsCommand checking
check_command = record { nothing = refl; few = λ before f. lit≤ tt }
