use Rattle.ipf_insert.specs.Steps.{settled}
use Rattle.ipf_insert.proofs.Judged.{dependent, present, frame_kept}
use Rattle.ipf_insert.proofs.target_rules.check_frame.Goals as goal

pub returns-then-not-head : goal.returns-then-not-head
returns-then-not-head c = dependent (settled c.args.sources.now) c.args.target c.in_ok-head.head c.in_ok-head.ensures c.if-not-head.true

pub returns-then-not-is_open : goal.returns-then-not-is_open
returns-then-not-is_open c = present (settled c.args.sources.now) c.args.target c.in_ok-head.head c.in_ok-head.ensures c.is_open.result c.if-not-head.false c.is_open.ensures c.if-not-is_open.true

pub returns : goal.returns
returns c = frame_kept (settled c.args.sources.now) c.args.target c.in_ok-head.head c.in_ok-head.ensures c.is_open.result c.if-not-head.false c.is_open.ensures c.if-not-is_open.false
