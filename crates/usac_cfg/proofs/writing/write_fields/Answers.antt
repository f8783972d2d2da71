use Rattle.std.proofs.Common.{append_assoc}
use Rattle.usac_cfg.specs.UsacExact.{rate_small}
use Rattle.usac_cfg.proofs.writing.write_fields.Goals as goal

pub put_small-requires-clause-below : goal.put_small-requires-clause-below
put_small-requires-clause-below c = rate_small c.args.value.now.rate_index c.requires.indices.rate

pub write_elements-requires-clause-fit : goal.write_elements-requires-clause-fit
write_elements-requires-clause-fit c = rw (c.goes_with_sbr-has_sbr.ensures, c.as_slice-2.ensures) c.requires.lists.elements

pub returns-clause-ok : goal.returns-clause-ok
returns-clause-ok c = rw (c.in_ok-write_extensions.ensures.ok, c.as_slice-3.ensures, c.in_ok-write_elements.ensures.ok, c.goes_with_sbr-has_sbr.ensures, c.as_slice-2.ensures, c.in_ok-write_positions.ensures.ok, c.as_slice.ensures, c.in_ok-put_small-3.ensures.ok, c.in_ok-put_small-2.ensures.ok, c.in_ok-write_explicit.ensures.ok, c.in_ok-put_small.ensures.ok) (simp append_assoc)
