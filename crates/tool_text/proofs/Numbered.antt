-- A loop over a list whose items are numbered, which adds what each of them gives.
use Rattle.std.proofs.Common.{◌≡◌, ℕ, ◌+◌, ◌<◌, ◌≤◌, List, [], ◌∷◌, ◌++◌, drop, length, get_or, sym, ap, ◌∙◌, append_assoc}
use Rattle.std.proofs.lemmas.List.{append-nil, drop_more, drop_all}

-- what is done, and what is left to do, one step on
pub one_more : {X Y : Type 0} (all : ℕ → List X → List Y) (each : ℕ → X → List Y) (law : (i : ℕ) (x : X) (xs : List X) → all i (x ∷ xs) ≡ each i x ++ all (i + 1) xs)
    (front : List Y) (xs : List X) (i : ℕ) (x : X) → i < length xs → x ≡ get_or xs i x → (front ++ each i x) ++ all (i + 1) (drop (i + 1) xs) ≡ front ++ all i (drop i xs)
one_more all each law front xs i x lt is =
    append_assoc front (each i x) (all (i + 1) (drop (i + 1) xs)) ∙ ap (λ t. front ++ t) (sym (ap (all i) (drop_more xs i x lt ∙ ap (λ y. y ∷ drop (i + 1) xs) (sym is)) ∙ law i x (drop (i + 1) xs)))

-- nothing is left at the end
pub at_end : {X Y : Type 0} (all : ℕ → List X → List Y) (none : (i : ℕ) → all i [] ≡ []) (front whole : List Y) (xs : List X) (i : ℕ) → length xs ≤ i → front ++ all i (drop i xs) ≡ whole → front ≡ whole
at_end all none front whole xs i le is = sym (append-nil front) ∙ ap (λ t. front ++ t) (sym (ap (all i) (drop_all i xs le) ∙ none i)) ∙ is
