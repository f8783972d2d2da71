use Rattle.std.proofs.Common.{ap, rules, ◌∙◌}
use Rattle.std.specs.Int.{w16, cast_signed}
use Rattle.std.proofs.lemmas.Int.{to_z-of_z}
use mir.Val.{SFits}
use Rattle.core_iface.proofs.Filling.{sample_16}
use Rattle.core_iface.proofs.fold.sample_at.Goals as goal

pub returns : goal.returns
returns c =
    let fits : SFits w16 c.cast_signed.result = search rules in
    to_z-of_z w16 c.cast_signed.result fits ∙ c.cast_signed.ensures ∙ ap (cast_signed w16) (rw c.from.ensures (sample_16 c.args.level c.args.time c.args.channel))
