use Rattle.std.proofs.Common.{◌≡◌, length, rules}
use Rattle.au_stream.proofs.Pieces.{probed}
use Rattle.au_stream.proofs.frame_reader.FrameReader.probe.Goals as goal

pub returns-in-Ok-clause-takes : goal.returns-in-Ok-clause-takes
returns-in-Ok-clause-takes g c =
    let bytes = rw c.in-Ok.is at c.read.ensures.bytes in
    let cause = rw c.in-Ok.is at c.read.ensures.cause in
    let one : length c.read.new.into ≡ 1 = search rules in
    probed _ _ _ _ _ _ c.requires one bytes.bound c.in-Ok.field-0-test.1 bytes.taken cause.counted
