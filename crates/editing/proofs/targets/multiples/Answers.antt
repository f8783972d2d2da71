use Rattle.std.proofs.Common.{ℕ, ◌+◌, ◌*◌, ap, sym, ◌∙◌, ◌++◌, [], ◌∷◌, arith}
use Rattle.std.proofs.lemmas.List.FromFn.{map-range_with_len_more}
use Rattle.editing.proofs.targets.multiples.Goals as goal

pub loop-count-preserved : goal.loop-count-preserved
loop-count-preserved c =
    let held = c.loop-count.invariant in
    let f : ℕ → ℕ = λ times. times * c.args.step in
    record {
      items = c.in_ok-push.ensures.items ∙ (ap (λ list. list ++ f (c.loop-count.count + 1) ∷ []) held.items ∙ sym (map-range_with_len_more f 1 c.loop-count.count (c.loop-count.count + 1) (omega arith)));
      count = held.count;
    }
