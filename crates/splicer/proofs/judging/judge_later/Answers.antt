use Rattle.std.proofs.Common.{rules, ◌≡◌}
use Rattle.std.specs.Prelude.{is_none, None}
use Rattle.std.proofs.lemmas.Result.{err_from_is_err_and}
use Rattle.splicer.specs.Turns.{to_of, turn_at}
use Rattle.splicer.specs.Rules.{from_of}
use Rattle.splicer.specs.Steps.{head_units, head_fade}
use Rattle.splicer.proofs.Frames.{turn_by, later_joined, later_refused, judged_later}
use Rattle.splicer.proofs.judging.judge_later.Goals as goal

pub returns-in_err-carried : goal.returns-in_err-carried
returns-in_err-carried c =
    let p = err_from_is_err_and c.from_residual-in_err-carried.result c.from_residual-in_err-carried.ensures.1 in
    rw (p.1, p.2) (later_refused c.args.asked.now c.args.need c.args.config.now c.args.au.now c.in_ok-frame.frame c.in_ok-frame.ensures.1 c.args.number c.args.kept.now c.in_err-carried.field-0.0 c.in_err-carried.ensures)

pub returns : goal.returns
returns c =
    let a = c.args.asked.now in
    let need = c.args.need in
    let config = c.args.config.now in
    let au = c.args.au.now in
    let n = c.args.number in
    let frame = c.in_ok-frame.frame in
    let is = c.in_ok-frame.ensures.1 in
    let carried = c.in_ok-carried.carried in
    let joins = c.in_ok-carried.ensures in
    let none : c.is_none.result ≡ is_none a.before = search rules in
    let turn : c.turn_of_frame-turn.result ≡ turn_at (from_of a config) (to_of a config) (is_none a.before) n (head_units carried) (head_fade carried) = turn_by _ _ _ _ _ _ _ _ _ _ c.turn_of_frame-turn.ensures c.first_frame-from.ensures.from c.end_frame-to.ensures.to none c.as_ref.ensures.value in (
      later_joined a need config au frame is n c.args.kept.now None joins.0,
      judged_later a need config au frame is n c.args.kept.now carried joins.1 _ _ turn c.in_ok-unit.ensures,
    )
