use Rattle.au_stream.specs.Giving.{weight}
use Rattle.au_stream.proofs.tests.longest.Given as goal

abbrev pub decreases-loop-reader : goal.decreases-loop-reader
decreases-loop-reader g l = weight l.reader
