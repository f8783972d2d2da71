use Rattle.std.proofs.lemmas.Result.{on_ok_weaker}
use Rattle.esc_value.proofs.EscapedWrites.{written_two, written_three}
use Rattle.esc_value.proofs.escaped.Escaped.put_fields.Goals as goal

pub returns-then-value-first-2-clause-ok : goal.returns-then-value-first-2-clause-ok
returns-then-value-first-2-clause-ok g c = on_ok_weaker c.put-then-value-first-2.result (written_two g.row.A g.row.B g.row.C c.args.value c.all_ones-first.result c.all_ones-second.result c.args.writer.now c.put-2.new.self c.put-then-value-first-2.new.self c.all_ones-first.ensures.value c.all_ones-second.ensures.value c.in_ok-put.ensures.ok c.if-value-first.false c.if-value-first-2.true) c.put-then-value-first-2.ensures.ok

pub returns-clause-ok : goal.returns-clause-ok
returns-clause-ok g c = on_ok_weaker c.put-4.result (written_three g.row.A g.row.B g.row.C c.args.value c.all_ones-first.result c.all_ones-second.result c.args.writer.now c.put-2.new.self c.put-3.new.self c.put-4.new.self c.all_ones-first.ensures.value c.all_ones-second.ensures.value c.in_ok-put.ensures.ok c.in_ok-put-2.ensures.ok c.if-value-first-2.false) c.put-4.ensures.ok
