use Rattle.au_stream.proofs.Marks.{exists_script, one_script}
use Rattle.au_stream.proofs.laws.one_script.Goals as goal

pub returns-clause-exists : goal.returns-clause-exists
returns-clause-exists c text bytes = exists_script text bytes

pub returns-clause-unique : goal.returns-clause-unique
returns-clause-unique c text frames others mark other s t = one_script text frames others mark other s t
