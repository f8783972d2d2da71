use Rattle.std.proofs.Common.{sym, ap}
use Rattle.usac_frame.specs.AccessUnit.{IsFrame}
use Rattle.preroll.specs.Carrying.{short_at}
use Rattle.splicer.specs.Rules.{short_rule}
use Rattle.splicer.specs.SeenFound.{not_short}
use Rattle.splicer.proofs.Refusals.{refused_frame, rule_is}
use Rattle.splicer.proofs.join.read_numbered.Goals as goal

pub returns-in-Ok : goal.returns-in-Ok
returns-in-Ok c =
    let is : IsFrame c.args.config.now c.args.au.now c.in-Ok.frame = record { fits = c.in-Ok.ensures.found.0; spelled = c.in-Ok.ensures.found.1 } in
    (ap (short_rule c.args.number) (not_short c.args.config.now c.args.au.now c.in-Ok.frame is), is)

pub returns-in-Err : goal.returns-in-Err
returns-in-Err c = rule_is _ _ (sym c.of_frame.ensures) (short_rule c.args.number (short_at c.args.config.now c.args.au.now)) (refused_frame c.args.config.now c.args.au.now c.args.number c.in-Err.fault c.in-Err.ensures.fault)
