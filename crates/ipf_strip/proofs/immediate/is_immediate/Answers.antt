use Rattle.std.proofs.Common.{sym, ◌∙◌}
use Rattle.usac_frame.specs.Head.{with_rest}
use Rattle.ipf_strip.proofs.Judged.{frame_passes, immediate_is}
use Rattle.ipf_strip.proofs.immediate.is_immediate.Goals as goal

pub returns : goal.returns
returns c =
    let config = c.args.at.now.config.now in
    let au = c.args.at.now.au.now in
    let h = c.in_ok-head.ensures in
    let g = with_rest c.in_ok-head.head h.0 in
    (frame_passes config au c.args.frame g h.1, c.is_immediate.ensures h.0 ∙ sym (immediate_is config au g h.1))
