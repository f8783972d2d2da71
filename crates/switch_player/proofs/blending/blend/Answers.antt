use Rattle.std.proofs.Common.{rules, arith, ◌≡◌, ℕ, suc, ◌+◌, ◌/◌, ◌<◌, List, [], ◌∷◌, ◌++◌, length, get_or, take, drop, set, ℤ, pos, sym, ap, ◌∙◌, drop-cons}
use Rattle.std.specs.Prelude.{FitsSigned}
use Rattle.std.specs.Int.{w16}
use Rattle.std.proofs.lemmas.List.{take_more_set, drop-set-lt, append_assoc}
use Rattle.std.proofs.lemmas.Int.{to_z-of_z}
use Rattle.switch_player.specs.Blending.{mixed, blend_from}
use Rattle.switch_player.proofs.blending.blend.Goals as goal

-- a step of the fade at place i
faded_more : (k i : ℕ) (old block : List ℤ) (v : ℤ) → i < length old → i < length block → v ≡ mixed (i / k) (get_or old i (pos 0)) (get_or block i (pos 0))
    → take (i + 1) (set block i v) ++ blend_from k (i + 1) (drop (i + 1) old) (drop (i + 1) (set block i v)) ≡ take i block ++ blend_from k i (drop i old) (drop i block)
faded_more k i old block v low high e =
    ap (λ xs. xs ++ blend_from k (i + 1) (drop (i + 1) old) (drop (i + 1) (set block i v))) (take_more_set block i v high)
    ∙ (append_assoc (take i block) (v ∷ []) _
    ∙ ap (λ xs. take i block ++ xs)
    (ap (λ xs. v ∷ blend_from k (i + 1) (drop (i + 1) old) xs) (drop-set-lt (i + 1) block i v (omega arith))
    ∙ (ap (λ x. x ∷ blend_from k (i + 1) (drop (i + 1) old) (drop (i + 1) block)) e
    ∙ sym parts)))
  where
    parts : blend_from k i (drop i old) (drop i block) ≡ mixed (i / k) (get_or old i (pos 0)) (get_or block i (pos 0)) ∷ blend_from k (i + 1) (drop (i + 1) old) (drop (i + 1) block)
    parts =
        ap (λ os. blend_from k i os (drop i block)) (drop-cons old i (pos 0) low)
        ∙ (ap (λ xs. blend_from k i (get_or old i (pos 0) ∷ drop (suc i) old) xs) (drop-cons block i (pos 0) high)
        ∙ (let n : suc i ≡ i + 1 = omega arith in ap (λ m. mixed (i / k) (get_or old i (pos 0)) (get_or block i (pos 0)) ∷ blend_from k (i + 1) (drop m old) (drop m block)) n))

pub loop-i-preserved : goal.loop-i-preserved
loop-i-preserved c =
    let fo : FitsSigned w16 (get_or c.args.old.now c.loop-i.i (pos 0)) = search rules in
    let fb : FitsSigned w16 (get_or c.loop-i.block c.loop-i.i (pos 0)) = search rules in
    let fv : FitsSigned w16 c.mix.result = search rules in
    let e : c.mix.result ≡ mixed (c.loop-i.i / c.args.channels) (get_or c.args.old.now c.loop-i.i (pos 0)) (get_or c.loop-i.block c.loop-i.i (pos 0)) = simp to_z-of_z at c.mix.ensures in
    faded_more c.args.channels c.loop-i.i c.args.old.now c.loop-i.block _ (omega arith) (omega arith) (to_z-of_z w16 c.mix.result fv ∙ e) ∙ c.loop-i.invariant
