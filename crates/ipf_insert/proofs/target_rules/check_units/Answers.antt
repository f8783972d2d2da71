use Rattle.std.proofs.Common.{ℕ, ◌<◌, ◌≤◌, arith}
use Rattle.ipf_insert.specs.Steps.{settled}
use Rattle.ipf_insert.proofs.Judged.{first_dependent, too_long, units_kept}
use Rattle.ipf_insert.proofs.target_rules.check_units.Goals as goal

not_early : (t count : ℕ) → count ≤ t → t < count → ⊥
not_early t count le lt = omega (arith, le, lt)

pub returns-then-not-head : goal.returns-then-not-head
returns-then-not-head c = first_dependent (settled c.args.sources.now) c.args.target c.in_ok-head.head c.in_ok-head.ensures (not_early c.args.target c.args.sources.now.count c.if-target-sources.false) c.if-not-head.true

pub returns-then-len-gt65788 : goal.returns-then-len-gt65788
returns-then-len-gt65788 c =
    too_long (settled c.args.sources.now) c.args.target c.in_ok-head.head c.in_ok-head.ensures (not_early c.args.target c.args.sources.now.count c.if-target-sources.false) c.in_ok-payload_at.field-0 c.if-not-head.false c.in_ok-payload_at.ensures
    (omega (arith, c.if-len-gt65788.true, c.len-2.ensures))

pub returns : goal.returns
returns c =
    units_kept (settled c.args.sources.now) c.args.target c.in_ok-head.head c.in_ok-head.ensures (not_early c.args.target c.args.sources.now.count c.if-target-sources.false) c.in_ok-payload_at.field-0 c.if-not-head.false c.in_ok-payload_at.ensures
    (λ lt. omega (arith, lt, c.if-len-gt65788.false, c.len-2.ensures))
