use Rattle.au_stream.proofs.Written.{carried, given, read_back}
use Rattle.au_stream.proofs.laws.written_frames_are_read_back.Goals as goal

pub returns-clause-carried : goal.returns-clause-carried
returns-clause-carried c before wanted frame behind fits w = carried before wanted frame behind fits w

pub returns-clause-given : goal.returns-clause-given
returns-clause-given c before wanted text behind old new result carried held takes = given before wanted text behind old new result carried held takes

pub returns-clause-read : goal.returns-clause-read
returns-clause-read c before wanted body result is reads = read_back before wanted body result is reads
