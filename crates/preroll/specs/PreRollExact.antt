-- A preroll is read exactly, and what follows from it.
use Rattle.std.proofs.Common.{ℕ, List, refl, ap}
use Rattle.layout.specs.Exact.{IsExact, IsExactToEnd}
use Rattle.layout.specs.Laws.{SpellsOnce, IsDecidedWhole}
use Rattle.layout.proofs.Every.{all_so}
use Rattle.layout.proofs.Layouts.{both-exact, shaped-exact, times-exact}
use Rattle.layout.proofs.ToEnd.{both-to_end, fitted-to_end, rest-to_end}
use Rattle.layout.proofs.Whole.{spells_once, decided_whole}
use Rattle.bit_core.proofs.PlainFacts.{flag-exact, run_of_bytes-exact}
use Rattle.esc_value.specs.EscapedExact.{escaped_value-exact}
use Rattle.preroll.specs.Faults.{from_short, from_read}
use Rattle.preroll.specs.PreRoll.{counted_bytes, units, HasBytes, IsWellFormed, preroll}

counted-exact : (a b c : ℕ) → IsExact (counted_bytes a b c)
counted-exact a b c = shaped-exact _ _ _ (both-exact _ _ (escaped_value-exact from_short a b c) (run_of_bytes-exact from_read))
    (λ v h. ap (λ (n : ℕ). let x : ℕ × List ℕ = (n, v.1) in x) h.1.0) (λ v h. refl)

units-exact : IsExact units
units-exact = shaped-exact _ _ _ (both-exact _ _ (escaped_value-exact from_short 2 4 0) (λ n. times-exact n _ (counted-exact 16 16 0)))
    (λ v h. ap (λ (n : ℕ). let x : ℕ × List (List ℕ) = (n, v.1) in x) h.1.0) (λ v h. refl)

-- ---- what fits

-- of 285, 18 and 131,070 at most, which are the largest numbers of these fields
config_good : (v : List ℕ) → (counted_bytes 4 4 8).Fits v → HasBytes 285 v
config_good v h = (h.0, all_so _ _ (λ b lt. lt.0) v h.1.1)

config_there : (v : List ℕ) → HasBytes 285 v → (counted_bytes 4 4 8).Fits v
config_there v h = (h.0, (refl, all_so _ _ (λ b lt. (lt, refl)) v h.1))

unit_good : (v : List ℕ) → (counted_bytes 16 16 0).Fits v → HasBytes 131070 v
unit_good v h = (h.0, all_so _ _ (λ b lt. lt.0) v h.1.1)

unit_there : (v : List ℕ) → HasBytes 131070 v → (counted_bytes 16 16 0).Fits v
unit_there v h = (h.0, (refl, all_so _ _ (λ b lt. (lt, refl)) v h.1))

pub preroll_exact : IsExactToEnd preroll
preroll_exact = fitted-to_end IsWellFormed _ _ _ (both-to_end _ _ (counted-exact 4 4 8) (λ _. both-to_end _ _ (flag-exact from_short) (λ _. both-to_end _ _ (flag-exact from_short) (λ _. both-to_end _ _ units-exact (λ _. rest-to_end)))))
    (λ a h. refl)
    (λ a h. record { config = config_good a.0 h.0; few = h.1.1.1.0.0; units = all_so _ _ unit_good a.1.1.1.0 h.1.1.1.0.1.1 })
    (λ p w. ((config_there p.config w.config, ((tt, refl), ((tt, refl), ((w.few, (refl, all_so _ _ unit_there p.units w.units)), tt)))), refl))

-- ---- laws

pub spelled_once : SpellsOnce preroll
spelled_once = spells_once preroll preroll_exact

pub decided : IsDecidedWhole preroll
decided = decided_whole preroll preroll_exact
