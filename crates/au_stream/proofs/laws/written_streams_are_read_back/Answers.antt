use Rattle.au_stream.proofs.Written.{stream_back}
use Rattle.au_stream.proofs.laws.written_streams_are_read_back.Goals as goal

pub returns : goal.returns
returns c stream text well w le = stream_back stream text well w le
