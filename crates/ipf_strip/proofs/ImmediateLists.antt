-- The list of the immediate play-out frames.
use Rattle.std.proofs.Common.{◌≡◌, ℕ, zero, suc, ◌+◌, ◌<◌, ◌≤◌, Bool, true, false, List, [], ◌∷◌, length, get_or, refl, sym, ap, subst, arith}
use Rattle.std.specs.Prelude.{slice_get, if◌then◌else◌}
use Rattle.std.specs.List.{Contains}
use Rattle.usac_cfg.specs.declared.usac_config.UsacConfig.{UsacConfig}
use Rattle.latm.specs.Stream.{frames_of}
use Rattle.ipf_strip.specs.Laws.{IsImmediateAt, ListsImmediate}
use Rattle.ipf_strip.specs.Rules.{immediate}
use Rattle.ipf_strip.specs.Stripping.{immediate_from}

abbrev Pair : Type 0
Pair = UsacConfig × List ℕ

-- the list where it is known whether the first frame is one
abbrev list_where : Bool → ℕ → List Pair → List ℕ
list_where b n fs = if b then n ∷ immediate_from (suc n) fs else immediate_from (suc n) fs

-- ---- it has no others

abbrev Comes : ℕ → List Pair → ℕ → Type 0
Comes n fs x = (k : ℕ) × (x ≡ n + k) × IsImmediateAt (slice_get fs k)

behind : (n x : ℕ) (f : Pair) (fs : List Pair) → Comes (suc n) fs x → Comes n (f ∷ fs) x
behind n x f fs h = (suc h.0, omega (arith, h.1), h.2)

only_from : (n : ℕ) (fs : List Pair) (x : ℕ) → Contains (immediate_from n fs) x → Comes n fs x
only_from n [] x h = absurd (omega (arith, h.1))
only_from n (f ∷ fs) x h = by_test (immediate f) refl h (λ more. only_from (suc n) fs x more)
  where
    by_place : (k : ℕ) → k < length (n ∷ immediate_from (suc n) fs) → get_or (n ∷ immediate_from (suc n) fs) k x ≡ x → immediate f ≡ true → (Contains (immediate_from (suc n) fs) x → Comes (suc n) fs x) → Comes n (f ∷ fs) x
    by_place zero lt at is rest = (0, omega (arith, at), is)
    by_place (suc k) lt at is rest = behind n x f fs (rest (k, omega (arith, lt), at))

    by_test : (b : Bool) → immediate f ≡ b → Contains (list_where b n fs) x → (Contains (immediate_from (suc n) fs) x → Comes (suc n) fs x) → Comes n (f ∷ fs) x
    by_test true is c rest = by_place c.0 c.1 c.2 is rest
    by_test false is c rest = behind n x f fs (rest c)

-- ---- it has all of them

later : (n x : ℕ) (b : Bool) (fs : List Pair) → Contains (immediate_from (suc n) fs) x → Contains (list_where b n fs) x
later n x true fs c = (suc c.0, omega (arith, c.1), c.2)
later n x false fs c = c

all_from : (n : ℕ) (fs : List Pair) (k : ℕ) → IsImmediateAt (slice_get fs k) → Contains (immediate_from n fs) (n + k)
all_from n [] k h = absurd h
all_from n (f ∷ fs) zero h =
    subst (λ (b : Bool). Contains (list_where b n fs) (n + 0)) (sym h) (0, omega arith, (let k : n ≡ n + 0 = omega arith in k))
all_from n (f ∷ fs) (suc k) h =
    later n (n + suc k) (immediate f) fs (subst (λ (x : ℕ). Contains (immediate_from (suc n) fs) x) (let x : suc n + k ≡ n + suc k = omega arith in x) (all_from (suc n) fs k h))

-- ---- it rises

from_first : (n : ℕ) (fs : List Pair) (k : ℕ) → k < length (immediate_from n fs) → n ≤ get_or (immediate_from n fs) k 0
from_first n [] k lt = absurd (omega (arith, lt))
from_first n (f ∷ fs) k lt = by_test (immediate f) k lt (from_first (suc n) fs)
  where
    by_test : (b : Bool) (k : ℕ) → k < length (list_where b n fs) → ((j : ℕ) → j < length (immediate_from (suc n) fs) → suc n ≤ get_or (immediate_from (suc n) fs) j 0) → n ≤ get_or (list_where b n fs) k 0
    by_test true zero lt more = omega arith
    by_test true (suc k) lt more = omega (arith, more k (omega (arith, lt)))
    by_test false k lt more = omega (arith, more k lt)

rises : (n : ℕ) (fs : List Pair) (k : ℕ) → k + 1 < length (immediate_from n fs) → get_or (immediate_from n fs) k 0 < get_or (immediate_from n fs) (k + 1) 0
rises n [] k lt = absurd (omega (arith, lt))
rises n (f ∷ fs) k lt = by_test (immediate f) k lt (rises (suc n) fs)
  where
    by_test : (b : Bool) (k : ℕ) → k + 1 < length (list_where b n fs) → ((j : ℕ) → j + 1 < length (immediate_from (suc n) fs) → get_or (immediate_from (suc n) fs) j 0 < get_or (immediate_from (suc n) fs) (j + 1) 0)
        → get_or (list_where b n fs) k 0 < get_or (list_where b n fs) (k + 1) 0
    by_test true zero lt more = let first = from_first (suc n) fs 0 (omega (arith, lt)) in omega (arith, first)
    by_test true (suc k) lt more =
        let next : get_or (list_where true n fs) (suc k + 1) 0 ≡ get_or (immediate_from (suc n) fs) (k + 1) 0 = ap (λ (j : ℕ). get_or (list_where true n fs) j 0) (let j : suc k + 1 ≡ suc (k + 1) = omega arith in j) in
        omega (arith, more k (omega (arith, lt)), next)
    by_test false k lt more = more k lt

pub lists_immediate : ListsImmediate
lists_immediate = record {
  rise = λ s k lt. rises 0 (frames_of s) k lt;
  all = λ s t h. subst (λ (x : ℕ). Contains (immediate_from 0 (frames_of s)) x) (let x : 0 + t ≡ t = omega arith in x) (all_from 0 (frames_of s) t h);
  only = λ s t h. let c = only_from 0 (frames_of s) t h in subst (λ (k : ℕ). IsImmediateAt (slice_get (frames_of s) k)) (let k : c.0 ≡ t = omega (arith, c.1) in k) c.2;
}
