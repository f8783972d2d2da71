use Rattle.latm.proofs.FrameWrites.{short_body, frames_by}
use Rattle.latm.proofs.element_bytes.framed.Goals as goal

pub with_header-requires : goal.with_header-requires
with_header-requires c = short_body _ c.in_ok-body.body c.as_slice.result.now c.as_slice.ensures c.in_ok-body.ensures.ok.0 c.in_ok-body.ensures.ok.1

pub returns : goal.returns
returns c = frames_by _ c.in_ok-body.body c.as_slice.result.now c.in_ok-frame.frame c.as_slice.ensures c.in_ok-body.ensures.ok.0 c.in_ok-body.ensures.ok.1 c.in_ok-frame.ensures
