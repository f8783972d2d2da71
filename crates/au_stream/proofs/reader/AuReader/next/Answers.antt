use Rattle.std.proofs.Common.{rules, ◌∙◌}
use Rattle.au_stream.proofs.Small.{small}
use Rattle.au_stream.proofs.Steps.{reads_marked}
use Rattle.au_stream.proofs.reader.AuReader.next.Goals as goal

pub returns-clause-reads : goal.returns-clause-reads
returns-clause-reads g c = λ got given h.
    let a = c.take-result.ensures in
    let going = rw (← c.self-2.view_is) at (a.going ∙ h.holds.going) in
    let reads = rw (← c.self-2.view_is) at (a.reads got given h) in
    reads_marked got given c.args.self.now _ c.is_err-self-inside.result _ _ c.take-result.result reads going (search rules)

pub returns-clause-small : goal.returns-clause-small
returns-clause-small g c = λ got given h. small got given _ _ _ _ _ (c.take-result.ensures.reads got given h)
