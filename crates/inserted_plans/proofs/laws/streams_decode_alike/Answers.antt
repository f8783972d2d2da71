use Rattle.inserted_plans.proofs.Alike.{streams_decode_alike}
use Rattle.inserted_plans.proofs.laws.streams_decode_alike.Goals as goal

pub returns : goal.returns
returns g c = streams_decode_alike g.C.Core.does
