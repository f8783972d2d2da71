use Rattle.std.proofs.Common.{◌≡◌, Bool, true, ap, ◌∙◌, eq-eqb, arith}
use Rattle.std.specs.Prelude.{◌==◌}
use Rattle.usac_frame.specs.Units.{payload_length}
use Rattle.preroll.specs.Carrying.{carried_of}
use Rattle.splicer.specs.Rules.{start_of}
use Rattle.splicer.specs.SeenFound.{bare_carries}
use Rattle.splicer.proofs.join.begin.Goals as goal

pub returns : goal.returns
returns c =
    let config = c.args.config.now in
    let frame = c.args.frame.now in
    let none : payload_length config frame ≡ 0 = omega (arith, c.payload_length.ensures, c.if-payload_length-gt0.false) in
    let bare : (payload_length config frame == 0) ≡ true = eq-eqb (payload_length config frame) 0 none in
    let alone : frame.independent ≡ true = search (c.if-not-frame.false) in
    (ap (λ (b : Bool). start_of b frame.independent (carried_of config frame)) bare ∙ ap (λ (b : Bool). start_of true b (carried_of config frame)) alone, bare_carries config frame bare)
