use Rattle.std.proofs.Common.{append_assoc}
use Rattle.layout.specs.Text.{bits_of}
use Rattle.usac_cfg.proofs.config_extension.write_config_extension.Goals as goal

pub returns-clause-ok : goal.returns-clause-ok
unfolding bits_of
returns-clause-ok c = rw (c.in_ok-put_bytes.ensures.ok, c.in_ok-put-2.ensures.ok, c.in_ok-put.ensures.ok, c.len.ensures, c.as_slice.ensures) (simp append_assoc)
