use Rattle.layout.proofs.Layouts.{both-exact}
use Rattle.layout.proofs.laws.both_is_exact.Goals as goal

pub returns : goal.returns
returns g c = both-exact _ _ g.P.Following.first_exact g.P.Following.second_exact
