use Rattle.bit_core.proofs.WordLemmas.{num_flag}
use Rattle.bit_core.proofs.writer.BitWriter.put_flag.Goals as goal

pub returns-clause-ok : goal.returns-clause-ok
returns-clause-ok c = rw (num_flag c.args.bit c.from.result c.from.ensures) at c.put.ensures.ok
