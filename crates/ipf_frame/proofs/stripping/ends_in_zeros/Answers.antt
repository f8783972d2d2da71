use Rattle.std.proofs.Common.{◌<◌, true, false, length, refl, sym, ◌∙◌, arith}
use Rattle.ipf_frame.proofs.LastZeros.{one_more, enough}
use Rattle.ipf_frame.proofs.stripping.ends_in_zeros.Goals as goal

pub returns-then-eq : goal.returns-then-eq
returns-then-eq c =
    let lt : c.loop-at.at < length c.args.bits.now = omega (arith, c.loop-at-test.true, c.len-in-loop-at.ensures) in
    let more = one_more _ refl refl c.args.bits.now c.loop-at.at true c.get.result lt (sym c.if-eq.true ∙ c.eq.ensures) c.get.ensures in
    sym (enough c.args.n c.args.bits.now false c.loop-at.invariant.0 (c.loop-at.invariant.3 ∙ more))

pub loop-at-preserved : goal.loop-at-preserved
loop-at-preserved c =
    let lt : c.loop-at.at < length c.args.bits.now = omega (arith, c.loop-at-test.true, c.len-in-loop-at.ensures) in
    let more = one_more _ refl refl c.args.bits.now c.loop-at.at false c.get.result lt (sym c.if-eq.false ∙ c.eq.ensures) c.get.ensures in
    (c.loop-at.invariant.0, omega (arith, c.loop-at.invariant.1), omega (arith, lt), c.loop-at.invariant.3 ∙ more)
