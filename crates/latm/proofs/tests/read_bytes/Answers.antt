use Rattle.std.proofs.lemmas.Result.{IfOk-weaker}
use Rattle.std.specs.Option.{option_copied}
use Rattle.latm.proofs.ReadBack.{whole_bytes}
use Rattle.latm.proofs.tests.read_bytes.Goals as goal

pub returns-clause-config : goal.returns-clause-config
returns-clause-config c = IfOk-weaker c.read_element.result _ _ (λ v p. p.0.0.1.1) c.read_element.ensures.found

pub returns-clause-whole : goal.returns-clause-whole
returns-clause-whole c = IfOk-weaker c.read_element.result _ _ (λ v p. whole_bytes (option_copied c.args.in_force) v c.args.bytes.now p.1) c.read_element.ensures.found
