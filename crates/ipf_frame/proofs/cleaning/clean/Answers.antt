use Rattle.std.proofs.Common.{sym, ap, ◌∙◌}
use Rattle.std.proofs.lemmas.Result.{IfOk-weaker}
use Rattle.usac_frame.specs.declared.frame.Frame.{Frame}
use Rattle.usac_frame.specs.declared.part.ExtPart.TheVariants.{Absent}
use Rattle.ipf_frame.specs.Frames.{frame_bytes}
use Rattle.ipf_frame.proofs.WrittenFrames.{written_fits}
use Rattle.ipf_frame.proofs.CleanBytes.{clean_same, clean_bare}
use Rattle.ipf_frame.proofs.cleaning.clean.Goals as goal

pub returns-then-is_bare : goal.returns-then-is_bare
returns-then-is_bare c =
    let same = clean_same c.args.config.now c.args.au.now c.in_ok-frame.frame c.in_ok-frame.ensures (sym c.is_bare.ensures ∙ c.if-is_bare.true) in
    IfOk-weaker c.copy_of.result _ _ (λ bytes e. e ∙ sym same) c.copy_of.ensures

pub frame_bytes-requires : goal.frame_bytes-requires
frame_bytes-requires c = written_fits c.args.config.now c.in_ok-frame.frame c.with_part-bare.result Absent (λ e. tt) c.in_ok-frame.ensures.fits c.with_part-bare.ensures

pub returns : goal.returns
returns c =
    let bare = clean_bare c.args.config.now c.args.au.now c.in_ok-frame.frame c.in_ok-frame.ensures (sym c.is_bare.ensures ∙ c.if-is_bare.false) in
    IfOk-weaker c.frame_bytes.result _ _ (λ bytes e. e ∙ ap (λ (f : Frame). frame_bytes c.args.config.now f) c.with_part-bare.ensures ∙ sym bare) c.frame_bytes.ensures
