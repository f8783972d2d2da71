use Rattle.std.proofs.Common.{arith}
use Rattle.std.proofs.lemmas.Result.{on_ok_weaker}
use Rattle.esc_value.proofs.SlotWrites.{goes_on, ends}
use Rattle.esc_value.proofs.slot_length.put_bytes.Goals as goal

pub loop-preserved : goal.loop-preserved
loop-preserved c = goes_on c.args.length c.loop.counter c.args.writer.now c.loop.writer c.put.new.self c.loop.invariant c.loop-test.true c.in_ok-put.ensures.ok

pub returns-clause-ok : goal.returns-clause-ok
returns-clause-ok c = on_ok_weaker c.put-2.result (ends c.args.length c.loop.counter c.args.writer.now c.loop.writer c.put-2.new.self c.loop.invariant (omega (arith, c.loop-test.false, c.loop.auto.counter-end))) c.put-2.ensures.ok
