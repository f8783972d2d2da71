use Rattle.std.proofs.Common.{refl}
use Rattle.au_stream.proofs.Near.{nothing_read}
use Rattle.au_stream.proofs.reader.AuReader.new.Goals as goal

pub returns : goal.returns
returns c = rw (c.new.ensures, c.new-2.ensures) (nothing_read _ refl refl refl refl refl refl)
