-- The first target that is misplaced.
use Rattle.std.proofs.Common.{◌≡◌, ℕ, zero, suc, ◌+◌, ◌-◌, ◌<◌, ◌≤◌, ◌⊎◌, inl, inr, Bool, true, false, List, [], ◌∷◌, length, get_or, Some, None, refl, sym, ap, subst, ◌∙◌, arith}
use Rattle.std.specs.Prelude.{◌||◌, nat_lt, not, if◌then◌else◌}
use Rattle.std.proofs.lemmas.Bool.Decides.{nat_tests}
use Rattle.stream_edit.specs.Laws.{IsMisplaced, FindsMisplaced}
use Rattle.stream_edit.specs.Targets.{misplaced_from}
use Rattle.stream_edit.proofs.Placed.{neither, well_placed}

-- the least number that may stand at a place
bound : ℕ → List ℕ → ℕ → ℕ
bound least ts zero = least
bound least ts (suc j) = suc (get_or ts j 0)

Wrong : ℕ → ℕ → List ℕ → ℕ → Type 0
Wrong frames least ts j = (j < length ts) × ((frames ≤ get_or ts j 0) ⊎ (get_or ts j 0 < bound least ts j))

next_bound : (least t : ℕ) (ts : List ℕ) (j : ℕ) → bound least (t ∷ ts) (suc j) ≡ bound (suc t) ts j
unfolding bound
next_bound least t ts zero = refl
next_bound least t ts (suc j) = refl

later : (frames least t : ℕ) (ts : List ℕ) (j : ℕ) → Wrong frames least (t ∷ ts) (suc j) → Wrong frames (suc t) ts j
unfolding Wrong
later frames least t ts j w = (omega (arith, w.0), elim w.1 [ inl h ↦ inl h | inr h ↦ inr (omega (arith, h, next_bound least t ts j)) ])

sooner : (frames least t : ℕ) (ts : List ℕ) (j : ℕ) → Wrong frames (suc t) ts j → Wrong frames least (t ∷ ts) (suc j)
unfolding Wrong
sooner frames least t ts j w = (omega (arith, w.0), elim w.1 [ inl h ↦ inl h | inr h ↦ inr (omega (arith, h, next_bound least t ts j)) ])

abbrev Bad : ℕ → ℕ → ℕ → Bool
Bad frames least t = nat_lt t least || not (nat_lt t frames)

not_wrong : (frames least t : ℕ) (ts : List ℕ) → Bad frames least t ≡ false → Wrong frames least (t ∷ ts) zero → ⊥
unfolding Wrong bound
not_wrong frames least t ts e w =
    let q = neither (nat_lt t least) (not (nat_lt t frames)) e in
    let le : least ≤ t = grind (arith, q.0, nat_tests) in
    let lt : t < frames = grind (arith, q.1, nat_tests) in
    elim w.1 [ inl h ↦ omega (arith, h, lt) | inr h ↦ omega (arith, h, le) ]

is_wrong : (frames least t : ℕ) (ts : List ℕ) → Bad frames least t ≡ true → Wrong frames least (t ∷ ts) zero
unfolding Wrong bound
is_wrong frames least t ts e = by_low (nat_lt t least) refl
  where
    by_low : (b : Bool) → nat_lt t least ≡ b → (0 < length (t ∷ ts)) × ((frames ≤ t) ⊎ (t < least))
    by_low true q = (omega arith, inr (let l : t < least = grind (arith, q, nat_tests) in l))
    by_low false q =
        let high : not (nat_lt t frames) ≡ true = sym (ap (λ (b : Bool). b || not (nat_lt t frames)) q) ∙ e in
        (omega arith, inl (let l : frames ≤ t = grind (arith, high, nat_tests) in l))

none_wrong : (frames least k : ℕ) (ts : List ℕ) → misplaced_from frames least k ts ≡ None → (j : ℕ) → Wrong frames least ts j → ⊥
unfolding Wrong
none_wrong frames least k [] e j w = omega (arith, w.0)
none_wrong frames least k (t ∷ ts) e zero w = not_wrong frames least t ts (let p = well_placed frames least k t ts e in p.0) w
none_wrong frames least k (t ∷ ts) e (suc j) w = none_wrong frames (suc t) (suc k) ts (let p = well_placed frames least k t ts e in p.1) j (later frames least t ts j w)

abbrev IsFirst : ℕ → ℕ → ℕ → List ℕ → ℕ → Type 0
IsFirst frames least k ts place = (j : ℕ) × (place ≡ k + j) × Wrong frames least ts j × ((p : ℕ) → p < j → Wrong frames least ts p → ⊥)

first_wrong : (frames least k : ℕ) (ts : List ℕ) (place : ℕ) → misplaced_from frames least k ts ≡ Some place → IsFirst frames least k ts place
first_wrong frames least k [] place q = absurd (let never : None ≡ Some place = q in cc)
first_wrong frames least k (t ∷ ts) place q = by_bad (Bad frames least t) refl (first_wrong frames (suc t) (suc k) ts place)
  where
    by_bad : (b : Bool) → Bad frames least t ≡ b → (misplaced_from frames (suc t) (suc k) ts ≡ Some place → IsFirst frames (suc t) (suc k) ts place) → IsFirst frames least k (t ∷ ts) place
    by_bad true h more =
        let told : Some k ≡ Some place = sym (ap (λ (b : Bool). if b then Some k else misplaced_from frames (suc t) (suc k) ts) h) ∙ q in
        let is : place ≡ k = cc in
        (0, is ∙ (let n : k ≡ k + 0 = omega arith in n), is_wrong frames least t ts h, λ p lt w. omega (arith, lt))
    by_bad false h more =
        let rest = more (sym (ap (λ (b : Bool). if b then Some k else misplaced_from frames (suc t) (suc k) ts) h) ∙ q) in
        (suc rest.0, rest.1 ∙ (let n : suc k + rest.0 ≡ k + suc rest.0 = omega arith in n), sooner frames least t ts rest.0 rest.2, earlier rest.0 rest.3)
      where
        earlier : (j : ℕ) → ((p : ℕ) → p < j → Wrong frames (suc t) ts p → ⊥) → (p : ℕ) → p < suc j → Wrong frames least (t ∷ ts) p → ⊥
        earlier j none zero lt w = not_wrong frames least t ts h w
        earlier j none (suc p) lt w = none p (omega (arith, lt)) (later frames least t ts p w)

-- where any number may stand first
to_wrong : (frames : ℕ) (ts : List ℕ) (j : ℕ) → IsMisplaced frames ts j → Wrong frames 0 ts j
unfolding Wrong bound
to_wrong frames ts zero m = (m.0, elim m.1 [ inl h ↦ inl h | inr h ↦ absurd (omega (arith, h.0)) ])
to_wrong frames ts (suc j) m = (m.0, elim m.1 [ inl h ↦ inl h | inr h ↦ inr (omega (arith, h.1, ap (λ (n : ℕ). get_or ts n 0) (let n : suc j - 1 ≡ j = omega arith in n))) ])

from_wrong : (frames : ℕ) (ts : List ℕ) (j : ℕ) → Wrong frames 0 ts j → IsMisplaced frames ts j
unfolding Wrong bound
from_wrong frames ts zero w = (w.0, elim w.1 [ inl h ↦ inl h | inr h ↦ absurd (omega (arith, h)) ])
from_wrong frames ts (suc j) w = (w.0, elim w.1 [ inl h ↦ inl h | inr h ↦ inr (omega arith, omega (arith, h, ap (λ (n : ℕ). get_or ts n 0) (let n : suc j - 1 ≡ j = omega arith in n))) ])

pub finds_misplaced : FindsMisplaced
finds_misplaced = record {
  none = λ frames targets e place m. none_wrong frames 0 0 targets e place (to_wrong frames targets place m);
  first = λ frames targets place q. let f = first_wrong frames 0 0 targets place q in
      let is : place ≡ f.0 = omega (arith, f.1) in
      (subst (λ (n : ℕ). IsMisplaced frames targets n) (sym is) (from_wrong frames targets f.0 f.2), λ p lt m. f.3 p (omega (arith, lt, is)) (to_wrong frames targets p m));
}
