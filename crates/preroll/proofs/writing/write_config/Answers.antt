use Rattle.std.proofs.Common.{append_assoc}
use Rattle.layout.specs.Text.{bits_of}
use Rattle.preroll.proofs.writing.write_config.Goals as goal

pub returns : goal.returns
unfolding bits_of
returns c = rw (c.in_ok-put_bytes.ensures.ok, c.in_ok-put.ensures.ok) (simp append_assoc)
