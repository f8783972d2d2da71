use Rattle.layout.proofs.Layouts.{reads_by}
use Rattle.bit_core.specs.Plain.{bit}
use Rattle.bit_core.proofs.PlainFacts.{flag_gives, bit-exact}
use Rattle.bit_core.proofs.fields.flag.Goals as goal

pub returns-clause-exact : goal.returns-clause-exact
returns-clause-exact c = flag_gives c.args.reader.now c.take.new.self c.in_ok-value.value c.in_ok-value.ensures.exact

pub returns-clause-reads : goal.returns-clause-reads
returns-clause-reads c = reads_by bit bit-exact c.args.reader.now c.take.new.self _ (returns-clause-exact c) tt
