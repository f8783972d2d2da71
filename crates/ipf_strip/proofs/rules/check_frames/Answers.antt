use Rattle.std.proofs.Common.{◌≡◌, Some, ◌∙◌}
use Rattle.std.proofs.lemmas.Result.{err_from_is_err_and}
use Rattle.usac_frame.specs.Head.{with_rest}
use Rattle.ipf_strip.proofs.Judged.{frame_passes, on_rule}
use Rattle.ipf_strip.proofs.Places.{short_one, passed_on, refused_on}
use Rattle.ipf_strip.specs.Rules.{frame_rule, frames_rule}
use Rattle.stream_edit.specs.Frames.{pair_of, pairs_of}
use Rattle.ipf_strip.proofs.rules.check_frames.Goals as goal

pub head_of-requires : goal.head_of-requires
head_of-requires c = rw c.index-frames-number.is (short_one c.args.frames.now c.loop-number.number c.index-frames-number.result c.requires c.loop-number-test.true)

pub returns-in_err-head_of : goal.returns-in_err-head_of
returns-in_err-head_of c =
    let fs = c.args.frames.now in
    let k = c.loop-number.number in
    let f = c.index-frames-number.result in
    let e = c.in_err-head_of.field-0.0 in
    let p = err_from_is_err_and c.from_residual.result c.from_residual.ensures.1 in
    rw (p.1, p.2) (on_rule e (frame_rule k (pair_of f) ≡ Some e) (frames_rule 0 (pairs_of fs) ≡ Some e) (λ q. c.loop-number.invariant ∙ refused_on fs k f e c.loop-number-test.true c.index-frames-number.is q) c.in_err-head_of.ensures)

pub loop-number-preserved : goal.loop-number-preserved
loop-number-preserved c =
    let fs = c.args.frames.now in
    let k = c.loop-number.number in
    let f = c.index-frames-number.result in
    let h = c.in_ok-head_of.ensures in
    c.loop-number.invariant ∙ passed_on fs k f c.loop-number-test.true c.index-frames-number.is (frame_passes f.config.now f.au.now k (with_rest c.in_ok-head_of.field-0 h.0) h.1)
