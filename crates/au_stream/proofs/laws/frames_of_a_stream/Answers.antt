use Rattle.std.proofs.Common.{None}
use Rattle.au_stream.proofs.FrameCounts.{pairs_from}
use Rattle.au_stream.proofs.laws.frames_of_a_stream.Goals as goal

pub returns : goal.returns
returns c elements = pairs_from None elements
