use Rattle.std.proofs.Common.{◌+◌, ◌∙◌, ℕ, ap, arith}
use Rattle.ipf_insert.proofs.Seeking.{next_few, next_number}
use Rattle.ipf_insert.proofs.target_rules.seek.Goals as goal

pub overflow_add-next : goal.overflow_add-next
overflow_add-next c =
    let few = next_few c.args.elements.now c.args.first c.loop-place.first c.loop-place.place 4294967296 c.index-elements-place.result c.loop-place-test.true c.loop-place.invariant.number c.requires.few in
    omega (arith, few, c.len.ensures)

pub loop-place-preserved : goal.loop-place-preserved
loop-place-preserved c = record {
  number = ap (λ (n : ℕ). c.loop-place.first + n) c.len.ensures ∙ next_number c.args.elements.now c.args.first c.loop-place.first c.loop-place.place c.index-elements-place.result c.loop-place-test.true c.loop-place.invariant.number;
  from = c.if-target-next.false;
}
