-- Each target that keeps its rules can be changed.
use Rattle.std.proofs.Common.{◌≡◌, ℕ, suc, ◌+◌, ◌≤◌, List, [], ◌∷◌, length, map, refl, sym, ap, subst, ◌∙◌, arith}
use Rattle.std.proofs.lemmas.List.{length-append, length-drop}
use Rattle.usac_cfg.specs.declared.usac_config.UsacConfig.{UsacConfig}
use Rattle.latm.specs.Stream.{au_in}
use Rattle.stream_edit.specs.Steps.{TargetsMay, MayChange}
use Rattle.ipf_insert.specs.Rules.{au_at}
use Rattle.ipf_insert.specs.Steps.{settled, IsReady, AreKept, IsHere, MayCarry}
use Rattle.ipf_insert.specs.declared.sources.Sources.{Sources}
use Rattle.ipf_insert.proofs.Here.{here_at, here_on, au_there}
use Rattle.ipf_insert.proofs.Kept.{one_kept}

-- those of an element
pub may_here : (x : Sources) (targets : List ℕ) (t : ℕ) (c : UsacConfig) (slots : List (List ℕ)) → IsReady x → AreKept (settled x) targets → IsHere (settled x).aus t slots → MayChange (λ n config au. MayCarry x n au) targets t c slots
may_here x targets t c [] ready kept here = tt
may_here x targets t c (au ∷ slots) ready kept here = (
  λ is. record { ready = ready; kept = one_kept (settled x) targets t kept is; here = here_at (settled x).aus (au ∷ slots) t au slots refl here },
  may_here x targets (suc t) c slots ready kept (subst (λ (n : ℕ). IsHere (settled x).aus n slots) (let n : t + 1 ≡ suc t = omega arith in n) (here_on (settled x).aus (au ∷ slots) t au slots refl here)),
)

pub here_few : (aus slots : List (List ℕ)) (t n : ℕ) → IsHere aus t slots → t ≤ length aus → length aus ≤ n → t + length slots ≤ n
here_few aus slots t n here le few =
    let left = length-drop t aus in
    let long = ap (λ (xs : List (List ℕ)). length xs) here.1 in
    omega (arith, left, long, length-append slots here.0, le, few)

-- those of a stream
pub may_all : (x : Sources) (targets : List ℕ) (fs : List (UsacConfig × List ℕ)) → IsReady x → AreKept (settled x) targets → (settled x).aus ≡ map au_in fs → TargetsMay (λ n config au. MayCarry x n au) targets fs
may_all x targets fs ready kept aus t f at is = record {
  ready = ready;
  kept = one_kept (settled x) targets t kept is;
  here = au_there fs t f at ∙ ap (λ (xs : List (List ℕ)). au_at xs t) (sym aus);
}
