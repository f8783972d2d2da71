use Rattle.std.proofs.Common.{rules, ◌≡◌}
use Rattle.std.specs.Prelude.{is_none, None}
use Rattle.std.proofs.lemmas.Result.{err_from_is_err_and}
use Rattle.splicer.specs.Turns.{to_of, turn_at}
use Rattle.splicer.specs.Rules.{from_of}
use Rattle.splicer.specs.Steps.{head_units, head_fade}
use Rattle.splicer.proofs.Frames.{turn_by, first_refused, first_joined, first_not_joined, judged_first}
use Rattle.splicer.proofs.judging.judge_first.Goals as goal

pub returns-in_err-head : goal.returns-in_err-head
returns-in_err-head c =
    let p = err_from_is_err_and c.from_residual-in_err-head.result c.from_residual-in_err-head.ensures.1 in
    rw (p.1, p.2) (first_refused c.args.asked.now c.args.need c.args.config.now c.args.au.now c.in_ok-frame.frame c.in_ok-frame.ensures.1 c.in_err-head.field-0.0 c.in_ok-check_opening.ensures c.in_err-head.ensures)

pub returns-in_err-join_first : goal.returns-in_err-join_first
returns-in_err-join_first c =
    let p = err_from_is_err_and c.from_residual-in_err-join_first.result c.from_residual-in_err-join_first.ensures.1 in
    let head = c.in_ok-head.ensures in
    rw (p.1, p.2) (first_not_joined c.args.asked.now c.args.need c.args.config.now c.args.au.now c.in_ok-frame.frame c.in_ok-frame.ensures.1 c.in_err-join_first.field-0.0 c.in_ok-check_opening.ensures head.0 c.in_ok-head.head head.1 c.in_err-join_first.ensures)

pub returns : goal.returns
returns c =
    let a = c.args.asked.now in
    let need = c.args.need in
    let config = c.args.config.now in
    let au = c.args.au.now in
    let frame = c.in_ok-frame.frame in
    let is = c.in_ok-frame.ensures.1 in
    let head = c.in_ok-head.head in
    let begins = c.in_ok-head.ensures in
    let none : c.is_none.result ≡ is_none a.before = search rules in
    let turn : c.turn_of_frame-turn.result ≡ turn_at (from_of a config) (to_of a config) (is_none a.before) 0 (head_units head) (head_fade head) = turn_by _ _ _ _ _ _ _ _ _ _ c.turn_of_frame-turn.ensures c.first_frame-from.ensures.from c.end_frame-to.ensures.to none c.as_ref.ensures.value in (
      first_joined a need config au frame is None c.in_ok-check_opening.ensures begins.0 head begins.1 c.in_ok-join_first.ensures,
      judged_first a need config au frame is head begins.1 _ _ turn c.in_ok-unit.ensures,
    )
