use Rattle.std.proofs.Common.{arith, rules}
use Rattle.std.proofs.lemmas.Grind.{common_steps}
use Rattle.std.proofs.lemmas.Result.{err_from_is_err_and}
use Rattle.commands.proofs.Handing.{handed-more, handed-stopped}
use Rattle.commands.proofs.give.give_all.Goals as goal

pub returns-in_err-count-clause-err : goal.returns-in_err-count-clause-err
returns-in_err-count-clause-err g c =
    let p = err_from_is_err_and c.from_residual.result c.from_residual.ensures.1 in
    rw p.1 (handed-stopped _ _ _ _ _ c.pieces.invariant.so_far (grind (arith, common_steps)) c.in_err-count.ensures.bytes.grown)

pub pieces-preserved : goal.pieces-preserved
pieces-preserved g c = record {
  so_far = handed-more _ _ _ _ _ _ c.in_ok-count.count c.pieces.invariant.so_far c.in_ok-count.ensures.bytes.grown (grind (arith, common_steps));
  faults = search rules;
  calm = search rules;
}
