use Rattle.std.proofs.Common.{Bool, List, ◌++◌, ap, ◌∙◌}
use Rattle.layout.specs.Text.{pad}
use Rattle.usac_cfg.specs.Spelling.{usac_config}
use Rattle.ipf_frame.proofs.Payloads.{config_back}
use Rattle.ipf_frame.proofs.payload.config_bytes.Goals as goal

pub returns : goal.returns
returns c =
    let text = c.in_ok-write.ensures.ok ∙ ap (λ (t : List Bool). t ++ usac_config.spelling c.args.config.now) c.new-writer.ensures in
    config_back c.args.config.now c.in_ok-bytes.bytes c.in_range.result.now (c.in_range.ensures.same ∙ c.as_slice.ensures) c.in_range.ensures.range
    (c.in_ok-bytes.ensures ∙ ap (λ (t : List Bool). pad t) text)
