use Rattle.std.proofs.Common.{rules, ◌∙◌}
use Rattle.au_stream.proofs.Views.{finds_marked, found_small}
use Rattle.au_stream.proofs.reader.AuReader.find.Goals as goal

pub returns-clause-finds : goal.returns-clause-finds
returns-clause-finds g c = λ got given h.
    let a = c.advance.ensures in
    let going = rw (← c.self-2.view_is) at (a.going ∙ h.holds.going) in
    let finds = rw (← c.self-2.view_is) at (a.finds got given h) in
    finds_marked got given c.args.self.now _ c.is_err-self-inside.result _ _ c.heads-result.result (rw c.heads-result.ensures finds) going (search rules)

pub returns-clause-small : goal.returns-clause-small
returns-clause-small g c = λ got given h. found_small got given c.args.self.now _ _ _ c.heads-result.result (returns-clause-finds g c got given h)
