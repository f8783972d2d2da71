use Rattle.std.proofs.Common.{◌∙◌}
use Rattle.ipf_frame.proofs.CleanBytes.{frame_back}
use Rattle.ipf_frame.proofs.changing.frame_bytes.Goals as goal

pub returns : goal.returns
returns c =
    frame_back c.args.config.now c.args.frame.now c.in_ok-bytes.bytes c.in_range.result.now (c.in_range.ensures.same ∙ c.as_slice.ensures) c.in_range.ensures.range c.in_ok-bytes.ensures
