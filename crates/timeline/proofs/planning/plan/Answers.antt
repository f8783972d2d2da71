use Rattle.std.proofs.Common.{rules, arith, ◌≡◌, ◌+◌, [], ◌∷◌, ◌++◌, drop, get_or, Some, Ok, ap, ◌∙◌}
use Rattle.timeline.specs.Plan.{piece_result, next_position, plan_from}
use Rattle.timeline.proofs.Before.{pieces_before, plan_on}
use Rattle.timeline.proofs.planning.plan.Goals as goal

pub loop-place-preserved : goal.loop-place-preserved
loop-place-preserved c =
    let shape = c.index-shapes-place.result in
    let place = c.loop-place.place in
    let given : Ok c.in_ok-piece.piece ≡ piece_result place c.loop-place.before shape (get_or c.args.positions.now place 0) (next_position place c.args.positions.now) = search rules in
    let pushed : c.push.new.self ≡ c.loop-place.pieces ++ c.in_ok-piece.piece ∷ [] = search rules in
    ap (λ xs. pieces_before xs (plan_from (place + 1) (Some shape) (drop (place + 1) c.args.shapes.now) (drop (place + 1) c.args.positions.now))) pushed
    ∙ (plan_on c.loop-place.before c.args.shapes.now c.args.positions.now place shape c.loop-place.pieces c.in_ok-piece.piece (omega arith) (omega arith) c.index-shapes-place.is given ∙ c.loop-place.invariant)
