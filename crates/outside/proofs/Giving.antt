-- Lemmas on a begun input and the bytes that it gives.
use Rattle.std.proofs.Common.{◌≡◌, ◌≢◌, ℕ, ◌+◌, ◌<◌, List, [], ◌∷◌, ◌++◌, length, take, get_or, refl, sym, ap, arith, zero, suc, drop}
use Rattle.std.proofs.Math.ListN.{set}
use Rattle.std.proofs.lemmas.Grind.{common_steps}
use Rattle.std.proofs.lemmas.List.{drop-drop, take-append-drop}
use Rattle.outside.specs.Stock.{Input, input_at}

-- what was copied to the front of a buffer is the front of what was left
pub given-front : (bytes into piece : List ℕ) (at n : ℕ) → piece ≡ take n (drop at bytes) → length piece ≡ n
    → drop at bytes ≡ take n (piece ++ drop n into) ++ drop (at + n) bytes
given-front bytes into piece at n e h =
    let front : take n (piece ++ drop n into) ≡ piece = grind (arith, common_steps) in
    rw front (rw e (sym (rw (← drop-drop n at bytes) (take-append-drop n (drop at bytes)))))

pub input_at-set : (inputs : List Input) (id : ℕ) (input : Input) → id < length inputs → input_at (set inputs id input) id ≡ input
input_at-set [] id input h = absurd (omega arith)
input_at-set (x ∷ inputs) zero input h = refl
input_at-set (x ∷ inputs) (suc id) input h = input_at-set inputs id input (omega arith)

pub input_at-set_other : (inputs : List Input) (id : ℕ) (input : Input) (other : ℕ) → other ≢ id → input_at (set inputs id input) other ≡ input_at inputs other
input_at-set_other [] id input other h = refl
input_at-set_other (x ∷ inputs) zero input zero h = absurd (h refl)
input_at-set_other (x ∷ inputs) zero input (suc other) h = refl
input_at-set_other (x ∷ inputs) (suc id) input zero h = refl
input_at-set_other (x ∷ inputs) (suc id) input (suc other) h = input_at-set_other inputs id input other (λ e. h (ap suc e))

pub input_at-push : (inputs : List Input) (input : Input) → input_at (inputs ++ input ∷ []) (length inputs) ≡ input
input_at-push [] input = refl
input_at-push (x ∷ inputs) input = input_at-push inputs input

pub input_at-push_other : (inputs : List Input) (input : Input) (id : ℕ) → id < length inputs → input_at (inputs ++ input ∷ []) id ≡ input_at inputs id
input_at-push_other [] input id h = absurd (omega arith)
input_at-push_other (x ∷ inputs) input zero h = refl
input_at-push_other (x ∷ inputs) input (suc id) h = input_at-push_other inputs input id (omega arith)

-- an element within the list, whatever stands for one outside of it
pub input_at-get : (inputs : List Input) (id : ℕ) (input : Input) → id < length inputs → input ≡ get_or inputs id input → input_at inputs id ≡ input
input_at-get [] id input h e = absurd (omega arith)
input_at-get (x ∷ inputs) zero input h e = sym e
input_at-get (x ∷ inputs) (suc id) input h e = input_at-get inputs id input (omega arith) e

pub ruleset giving = (given-front, input_at-set, input_at-set_other, input_at-push, input_at-push_other, input_at-get)
