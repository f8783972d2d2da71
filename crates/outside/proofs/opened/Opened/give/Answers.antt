use Rattle.std.proofs.Common.{◌≡◌, arith, take, drop, length}
use Rattle.std.proofs.lemmas.Grind.{common_steps}
use Rattle.outside.proofs.Giving.{given-front}
use Rattle.outside.proofs.opened.Opened.give.Goals as goal

pub returns-clause-taken : goal.returns-clause-taken
returns-clause-taken c =
    let copied : c.copy_from_slice.new.self ≡ take c.min-count.result (drop c.self.inside.given c.self.inside.bytes.items) = grind (arith, common_steps) in
    let long : length c.copy_from_slice.new.self ≡ c.min-count.result = grind (arith, common_steps) in
    rw (← c.self.view_is) (given-front c.self.inside.bytes.items c.args.into.now _ _ _ copied long)
