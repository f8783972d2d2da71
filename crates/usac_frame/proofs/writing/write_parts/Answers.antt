use Rattle.std.proofs.Common.{◌≤◌, length, arith}
use Rattle.usac_frame.proofs.PartLists.{inside, here, all_written}
use Rattle.usac_frame.proofs.writing.write_parts.Goals as goal

pub bounds-elements-i : goal.bounds-elements-i
bounds-elements-i c = inside c.args.elements.now c.args.parts.now c.loop-i.i c.loop-i-test.true c.loop-i.invariant.fit

pub unreachable-requires : goal.unreachable-requires
unreachable-requires c =
    let in_elements = inside c.args.elements.now c.args.parts.now c.loop-i.i c.loop-i-test.true c.loop-i.invariant.fit in
    let ext = here c.args.elements.now c.args.parts.now c.loop-i.i c.index-elements-i.result in_elements c.loop-i-test.true c.index-elements-i.is c.loop-i.invariant.fit in
    absurd (c.in_default.not-Ext ext.0 ext.1)

pub returns : goal.returns
returns c =
    let le : length c.args.parts.now ≤ c.loop-i.i = omega (arith, c.loop-i-test.false) in
    all_written c.args.elements.now c.args.parts.now c.loop-i.i c.loop-i.writer _ le c.loop-i.invariant.so_far
