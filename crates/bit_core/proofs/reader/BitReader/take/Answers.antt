use Rattle.std.proofs.Common.{◌≤◌, ◌+◌, arith, Ok, rules}
use Rattle.layout.specs.Text.{bits_of}
use Rattle.layout.proofs.TextLemmas.{left_parts, length-left}
use Rattle.bit_core.proofs.PlainFacts.{number_gives}
use Rattle.bit_core.proofs.reader.BitReader.take.Goals as goal

pub returns-clause-spelled : goal.returns-clause-spelled
returns-clause-spelled c =
    let i = c.self.inside in
    let within : i.at + c.args.n ≤ i.end = omega (arith, length-left i.bytes.now i.at i.end c.self.invariant.1, rw (← c.self.view_is) at c.left.ensures) in
    rw (← c.self.view_is, c.from-2.ensures, c.number_at-value.ensures.spelled) (left_parts (bits_of i.bytes.now) i.at c.args.n i.end within)

pub returns-clause-exact : goal.returns-clause-exact
returns-clause-exact c = number_gives c.args.n c.args.self.now _ (Ok c.number_at-value.result) (search rules) (returns-clause-spelled c) (search rules) (search rules) tt tt
