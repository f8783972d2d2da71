use Rattle.std.proofs.Common.{◌≡◌, ◌+◌, ◌++◌, ◌∷◌, [], take, drop, arith, subst}
use Rattle.std.proofs.lemmas.Grind.{common_steps}
use Rattle.loas.specs.Framer.{Framer, past_frame}
use Rattle.loas.specs.Giving.{HasGiven}
use Rattle.loas.specs.contracts.framer.Loas.{the_view}
use Rattle.loas.proofs.Given.{given-past}
use Rattle.loas.proofs.framer.Loas.pass.Goals as goal

pub returns-clause-given : goal.returns-clause-given
returns-clause-given c = λ text given h.
    let e : past_frame c.args.n c.args.self.now.framer ≡ (the_view (record { buffer = c.self.inside.buffer; at = c.self.inside.at + (3 + c.args.n); passed = c.self.inside.passed + (3 + c.args.n) })).framer = grind (arith, common_steps) in
    subst (λ (f : Framer). HasGiven text (given ++ take c.args.n (drop 3 c.args.self.now.framer.held) ∷ []) f) e (given-past text given c.args.n c.args.self.now.framer h c.requires)
