use Rattle.std.proofs.Common.{◌≡◌, arith, subst, sym, OnOk, ◌++◌}
use Rattle.std.proofs.lemmas.Result.{on_ok_weaker}
use Rattle.std.proofs.lemmas.Grind.{common_steps}
use Rattle.loas.specs.Framer.{Framer, grown}
use Rattle.loas.specs.Giving.{HasGiven}
use Rattle.loas.specs.contracts.framer.Loas.{the_view}
use Rattle.loas.proofs.Given.{given-more}
use Rattle.loas.proofs.framer.Loas.push.Goals as goal

pub returns-clause-given : goal.returns-clause-given
returns-clause-given c =
    let ok : OnOk c.extend_from_slice.result ((the_view (record { buffer = c.extend_from_slice.new.self; at = c.self.inside.at; passed = c.self.inside.passed })).framer ≡ grown c.args.self.now.framer c.args.piece.now) = grind (arith, common_steps) in
    on_ok_weaker c.extend_from_slice.result (λ e text given h. subst (λ (f : Framer). HasGiven (text ++ c.args.piece.now) given f) (sym e) (given-more text given c.args.self.now.framer c.args.piece.now h)) ok
