-- One input of a shelf that was begun, and a command on it.
use Rattle.std.proofs.Common.{◌≡◌, ℕ, List, [], ◌∷◌, Option, refl, sym, ap, subst, ◌∙◌}
use Rattle.std.proofs.lemmas.List.{append-nil}
use Rattle.std.specs.Io.KnownBytes.{prepend_known, IsAtEnd}
use Rattle.commands.specs.declared.outcome.Outcome.{Outcome}
use Rattle.commands.specs.Ending.{Traces}
use Rattle.commands.specs.Doing.{DoesSource}
use Rattle.commands.specs.Calling.{AreTaken, AreHeld}
use Rattle.commands.specs.OnInput.{OneInput, DoesInput}
use Rattle.commands.proofs.Endings.{told}

-- what was taken of it
pub one_taken : (i : OneInput) (bytes : List ℕ → Option (List ℕ)) (left : ℕ → Option (List ℕ)) (name : List ℕ) (a id : ℕ) (before : Option (List ℕ)) (t : Traces) (outcome : Outcome) → before ≡ bytes name → id ≡ a
    → (p : DoesSource i.Ends before (left id) t outcome) → AreTaken bytes left a (name ∷ []) (p.taken ∷ [])
one_taken i bytes left name a id before t outcome start is p = (sym start ∙ p.from ∙ ap (λ (n : ℕ). prepend_known p.taken (left n)) is, p.within, tt)

-- where the shelf tells its bytes, they say what was done
pub one_does : (i : OneInput) (bytes : List ℕ → Option (List ℕ)) (name : List ℕ) (before left : Option (List ℕ)) (t : Traces) (outcome : Outcome) → before ≡ bytes name
    → (p : DoesSource i.Ends before left t outcome) → (texts : List (List ℕ)) → AreHeld bytes (name ∷ []) texts → DoesInput i texts (p.taken ∷ []) t outcome
one_does i bytes name before left t outcome start p [] h = absurd h
one_does i bytes name before left t outcome start p (text ∷ texts) h =
    let k = told text p.taken left (sym h.0 ∙ sym start ∙ p.from) in
    subst (λ (x : List ℕ). i.Ends x p.taken t outcome) (sym k.2) (p.ends k.0 (λ e. subst IsAtEnd k.1 (p.at_end e)))

-- whether it tells them or not, those that were taken account for all
pub one_accounts : (i : OneInput) (before left : Option (List ℕ)) (t : Traces) (outcome : Outcome) → (p : DoesSource i.Ends before left t outcome) → DoesInput i (p.taken ∷ []) (p.taken ∷ []) t outcome
one_accounts i before left t outcome p = subst (λ (x : List ℕ). i.Ends x p.taken t outcome) (append-nil p.taken) (p.ends [] (λ e. refl))
