use Rattle.std.proofs.Common.{arith}
use Rattle.std.proofs.lemmas.Grind.{common_steps}
use Rattle.loas.specs.Front.{Shows}
use Rattle.loas.proofs.Frames.{stands}
use Rattle.loas.proofs.framer.Loas.front.Goals as goal

pub returns : goal.returns
returns c =
    let shown : Shows c.args.self.now.framer.held c.front_of.result = grind (arith, common_steps) in
    record { stands = stands _ _ shown }
