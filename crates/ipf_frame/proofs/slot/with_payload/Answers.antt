use Rattle.std.proofs.Common.{sym, ap, ◌∙◌}
use Rattle.std.proofs.lemmas.Result.{IfOk-weaker}
use Rattle.usac_frame.specs.declared.part.ExtPart.{ExtPart}
use Rattle.usac_frame.specs.declared.frame.Frame.{Frame}
use Rattle.ipf_frame.specs.Frames.{with_first, new_part, frame_bytes}
use Rattle.ipf_frame.proofs.NewParts.{few_fit}
use Rattle.ipf_frame.proofs.WrittenFrames.{written_fits}
use Rattle.ipf_frame.proofs.Targets.{slot_of}
use Rattle.ipf_frame.proofs.slot.with_payload.Goals as goal

pub frame_bytes-requires : goal.frame_bytes-requires
frame_bytes-requires c =
    written_fits c.args.config.now c.in_ok-frame.frame c.with_part-changed.result (new_part c.args.payload) (few_fit c.args.payload c.in_range.result.now (c.in_range.ensures.same ∙ c.as_slice.ensures) c.in_range.ensures.range c.requires.few)
    c.in_ok-frame.ensures.fits (c.with_part-changed.ensures ∙ ap (λ (p : ExtPart). with_first p c.in_ok-frame.frame) c.new_part.ensures)

pub returns : goal.returns
returns c =
    let made = c.with_part-changed.ensures ∙ ap (λ (p : ExtPart). with_first p c.in_ok-frame.frame) c.new_part.ensures in
    let slot = slot_of c.args.config.now c.args.payload c.args.au.now c.in_ok-frame.frame c.in_ok-frame.ensures in
    IfOk-weaker c.frame_bytes.result _ _ (λ bytes e. e ∙ ap (λ (f : Frame). frame_bytes c.args.config.now f) made ∙ sym slot) c.frame_bytes.ensures
