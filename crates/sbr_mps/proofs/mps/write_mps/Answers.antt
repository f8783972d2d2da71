use Rattle.std.proofs.Common.{append_assoc}
use Rattle.bit_core.proofs.Writing.{extends_by, extends_then}
use Rattle.sbr_mps.specs.Mps212.{mps212_text}
use Rattle.sbr_mps.proofs.mps.write_mps.Goals as goal

pub returns-clause-ok : goal.returns-clause-ok
returns-clause-ok c = rw (c.in_ok-write_quant.ensures.ok, c.in_ok-write_residual.ensures.ok, c.in_ok-write_phase.ensures.ok, c.in_ok-put_flag-3.ensures.ok, c.in_ok-put_flag-2.ensures.ok, c.in_ok-put_flag.ensures.ok, c.in_ok-put_small-4.ensures.ok, c.in_ok-put_small-3.ensures.ok, c.in_ok-put_small-2.ensures.ok, c.in_ok-put_small.ensures.ok, c.is_some.ensures) (simp append_assoc)

pub returns-clause-kept : goal.returns-clause-kept
returns-clause-kept c = extends_by c.args.writer.now c.write_quant.new.writer (mps212_text c.args.value.now) (rw (c.in_ok-write_quant.ensures.ok, c.in_ok-write_residual.ensures.ok, c.in_ok-write_phase.ensures.ok, c.in_ok-put_flag-3.ensures.ok, c.in_ok-put_flag-2.ensures.ok, c.in_ok-put_flag.ensures.ok, c.in_ok-put_small-4.ensures.ok, c.in_ok-put_small-3.ensures.ok, c.in_ok-put_small-2.ensures.ok, c.in_ok-put_small.ensures.ok, c.is_some.ensures) (simp append_assoc))

pub returns-in_err-write_quant-clause-kept : goal.returns-in_err-write_quant-clause-kept
returns-in_err-write_quant-clause-kept c =
    let e = simp append_assoc at (rw (c.in_ok-write_phase.ensures.ok, c.in_ok-put_flag-3.ensures.ok, c.in_ok-put_flag-2.ensures.ok, c.in_ok-put_flag.ensures.ok, c.in_ok-put_small-4.ensures.ok, c.in_ok-put_small-3.ensures.ok, c.in_ok-put_small-2.ensures.ok, c.in_ok-put_small.ensures.ok) at c.in_ok-write_residual.ensures.ok) in
    extends_then c.args.writer.now c.write_residual.new.writer c.write_quant.new.writer (extends_by _ _ _ e) c.in_err-write_quant.ensures.kept
