use Rattle.loas.proofs.Splitting.{exists_longest, one_longest, first_of_longest}
use Rattle.loas.proofs.laws.one_longest.Goals as goal

pub returns-clause-exists : goal.returns-clause-exists
returns-clause-exists c text = exists_longest text

pub returns-clause-unique : goal.returns-clause-unique
returns-clause-unique c text bodies others rest remains a b = one_longest text bodies others rest remains a b

pub returns-clause-given : goal.returns-clause-given
returns-clause-given c text given bodies rest framer h l =
    let f = first_of_longest text given framer.held bodies rest h.splits l in
    (f.0, f.1)
