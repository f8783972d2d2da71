-- Lemmas on the names that a shelf holds.
use Rattle.std.proofs.Common.{◌≡◌, ℕ, List, [], ◌∷◌, ◌++◌, Some, None, refl, arith, true, false}
use Rattle.std.specs.Str.{bytes_eq}
use Rattle.std.proofs.lemmas.Bool.{false_from_ne_true}
use Rattle.std.proofs.lemmas.Slice.Eq.{bytes_eq-Decides}
use Rattle.outside.specs.Stock.{Named, bytes_of}

same_bytes : (xs ys : List ℕ) → xs ≡ ys → bytes_eq xs ys ≡ true
same_bytes xs ys e = (bytes_eq-Decides xs ys).1 e

other_bytes : (xs ys : List ℕ) → (xs ≡ ys → ⊥) → bytes_eq xs ys ≡ false
other_bytes xs ys h = false_from_ne_true (bytes_eq xs ys) (λ e. h ((bytes_eq-Decides xs ys).0 e))

pub bytes_of-push : (held : List Named) (one : Named) (name : List ℕ) → one.name ≡ name → bytes_of held name ≡ None → bytes_of (held ++ one ∷ []) name ≡ Some one.bytes
bytes_of-push [] one name e h = rw (same_bytes _ _ e) refl
bytes_of-push (x ∷ held) one name e h = grind (arith, bytes_of-push held one name e)

pub bytes_of-push_other : (held : List Named) (one : Named) (name : List ℕ) → (one.name ≡ name → ⊥) → bytes_of (held ++ one ∷ []) name ≡ bytes_of held name
bytes_of-push_other [] one name h = rw (other_bytes _ _ h) refl
bytes_of-push_other (x ∷ held) one name h = grind (arith, bytes_of-push_other held one name h)

pub ruleset holding = (bytes_of-push, bytes_of-push_other)
