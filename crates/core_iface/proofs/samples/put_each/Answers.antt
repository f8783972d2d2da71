use Rattle.std.proofs.Common.{get_or, arith, pos, ap, rules, ◌∙◌}
use Rattle.std.specs.Int.{w16, cast_unsigned}
use Rattle.std.proofs.lemmas.Int.{to_z-of_z}
use mir.Val.{SFits}
use Rattle.core_iface.proofs.Filling.{next_sample}
use Rattle.core_iface.proofs.samples.put_each.Goals as goal

pub loop-i-preserved : goal.loop-i-preserved
loop-i-preserved c =
    let fits : SFits w16 (get_or c.args.samples.now c.loop-i.i (pos 0)) = search rules in
    next_sample c.loop-i.out c.args.samples.now c.loop-i.i _ _ _ (pos 0) c.loop-i-test.true (omega arith) c.loop-i.invariant (c.cast_unsigned-number.ensures ∙ ap (cast_unsigned w16) (to_z-of_z w16 _ fits)) (omega arith) (omega arith)
