use Rattle.std.proofs.Common.{arith, drop, ◌*◌, ◌∙◌}
use Rattle.layout.specs.Text.{bits_of}
use Rattle.bit_core.proofs.CopyLemmas.{copied_none, copied_step, copied_rest, stopped, all_front, front_is, shown_from}
use Rattle.bit_core.proofs.words.push_from.Goals as goal

pub loop-i-init : goal.loop-i-init
loop-i-init c = copied_none _ _ (drop c.args.at (bits_of c.args.bytes.now)) c.requires.packed

pub push_word-requires-clause-front : goal.push_word-requires-clause-front
push_word-requires-clause-front c = all_front _

pub returns-in_err-push_word-clause-err : goal.returns-in_err-push_word-clause-err
returns-in_err-push_word-clause-err c = stopped _ _ _ _ _ _ _ c.in_err-push_word.ensures.err c.requires.packed c.loop-i.invariant

pub loop-i-preserved : goal.loop-i-preserved
loop-i-preserved c = copied_step _ _ _ _ _ _ _ c.loop-i.invariant (shown_from _ _ (64 * c.loop-i.i) _ 64 (omega arith) (omega arith) c.peek.ensures) c.in_ok-push_word.ensures.ok

pub push_word-requires-then-rest-gt0-clause-front : goal.push_word-requires-then-rest-gt0-clause-front
push_word-requires-then-rest-gt0-clause-front c = (front_is _ _ _ (omega arith) c.front_of-last.ensures).0

pub returns-in_err-push_word-2-clause-err : goal.returns-in_err-push_word-2-clause-err
returns-in_err-push_word-2-clause-err c = stopped _ _ _ _ _ _ _ c.in_err-push_word-2.ensures.err c.requires.packed c.loop-i.invariant

pub returns-in_ok-push_word-2-clause-ok : goal.returns-in_ok-push_word-2-clause-ok
returns-in_ok-push_word-2-clause-ok c = copied_rest _ _ _ _ _ _ _ _ c.loop-i-test.false c.loop-i.auto.i-end c.loop-i.invariant ((front_is _ _ _ (omega arith) c.front_of-last.ensures).1 ∙ shown_from _ _ _ _ _ (omega arith) (omega arith) c.peek-then-rest-gt0.ensures) c.in_ok-push_word-2.ensures.ok
