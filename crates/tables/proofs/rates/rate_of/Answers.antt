use Rattle.std.proofs.Common.{None, sym, arith}
use Rattle.std.proofs.lemmas.List.{get_or_past}
use Rattle.tables.specs.Tables.{rates}
use Rattle.tables.proofs.rates.rate_of.Goals as goal

pub returns-else-from-lt28 : goal.returns-else-from-lt28
returns-else-from-lt28 c = sym (get_or_past rates c.args.index None (omega (arith, c.if-from-lt28.false, c.from.ensures)))
