use Rattle.std.proofs.Common.{Ok, sym, ap}
use Rattle.preroll.specs.Carrying.{carried_of}
use Rattle.preroll.proofs.Judging.{carried_is}
use Rattle.splicer.specs.Rules.{carry_rule}
use Rattle.splicer.specs.Steps.{value_of}
use Rattle.splicer.proofs.Refusals.{refused_carry, rule_is}
use Rattle.splicer.proofs.join.carry.Goals as goal

pub returns-in-Ok : goal.returns-in-Ok
returns-in-Ok c =
    let is = carried_is.found c.args.config.now c.args.frame.now (Ok (value_of c.in-Ok.carried)) c.requires.well_formed c.in-Ok.ensures.found in
    (ap (carry_rule c.args.number) is, is)

pub returns-in-Err : goal.returns-in-Err
returns-in-Err c = rule_is _ _ (sym c.of_carry.ensures) (carry_rule c.args.number (carried_of c.args.config.now c.args.frame.now)) (refused_carry c.args.config.now c.args.frame.now c.args.number c.in-Err.fault c.requires.well_formed c.in-Err.ensures.refused)
