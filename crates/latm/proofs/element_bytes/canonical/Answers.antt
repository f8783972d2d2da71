use Rattle.std.proofs.Common.{◌∙◌}
use Rattle.std.proofs.lemmas.Result.{err_from_is_err_and}
use Rattle.latm.proofs.FrameWrites.{short_body, frames_by}
use Rattle.latm.proofs.CanonicalBytes.{canonical_by, canonical_refused}
use Rattle.latm.proofs.element_bytes.canonical.Goals as goal

pub with_header-requires : goal.with_header-requires
with_header-requires c = short_body _ c.in_ok-body.body c.in_range.result.now (c.in_range.ensures.same ∙ c.as_slice.ensures) c.in_ok-body.ensures.ok.0 c.in_ok-body.ensures.ok.1

pub returns-clause-frames : goal.returns-clause-frames
returns-clause-frames c =
    frames_by _ c.in_ok-body.body c.in_range.result.now c.in_ok-frame.frame (c.in_range.ensures.same ∙ c.as_slice.ensures) c.in_ok-body.ensures.ok.0 c.in_ok-body.ensures.ok.1 c.in_ok-frame.ensures

pub returns-clause-bytes : goal.returns-clause-bytes
returns-clause-bytes c =
    canonical_by _ _ c.in_ok-body.body c.in_range.result.now c.in_ok-frame.frame (c.in_range.ensures.same ∙ c.as_slice.ensures) c.in_ok-body.ensures.ok.0 c.in_ok-body.ensures.ok.1 c.in_range.ensures.range c.in_ok-frame.ensures

pub returns-in_err-body-clause-bytes : goal.returns-in_err-body-clause-bytes
returns-in_err-body-clause-bytes c = let p = err_from_is_err_and c.from_residual.result c.from_residual.ensures.1 in rw (p.1, p.2) (canonical_refused _ _ _ c.in_err-body.ensures.err)
