use Rattle.std.proofs.Common.{◌≡◌, Some, length, get_or, ◌∙◌}
use Rattle.std.proofs.lemmas.Result.{err_from_is_err_and}
use Rattle.stream_edit.specs.Frames.{pair_of, pairs_of}
use Rattle.ipf_strip.specs.Rules.{target_rule, targets_rule}
use Rattle.ipf_strip.proofs.Judged.{on_rule}
use Rattle.ipf_strip.proofs.Places.{short_one, passes_first, below_at, pair_of_target, target_passed, target_refused}
use Rattle.ipf_strip.proofs.rules.check_targets.Goals as goal

pub check_target-requires-clause-short : goal.check_target-requires-clause-short
check_target-requires-clause-short c =
    let t = get_or c.args.targets.now c.loop-target.target-index 0 in
    let lt = below_at (length c.args.frames.now) c.args.targets.now c.loop-target.target-index c.requires.below c.loop-target-test.true in
    rw c.index-frames-target.is (short_one c.args.frames.now t c.index-frames-target.result c.requires.short lt)

pub check_target-requires-clause-frame : goal.check_target-requires-clause-frame
check_target-requires-clause-frame c =
    let t = get_or c.args.targets.now c.loop-target.target-index 0 in
    let lt = below_at (length c.args.frames.now) c.args.targets.now c.loop-target.target-index c.requires.below c.loop-target-test.true in
    passes_first (pairs_of c.args.frames.now) t (pair_of c.index-frames-target.result) c.requires.frames (pair_of_target c.args.frames.now t c.index-frames-target.result lt c.index-frames-target.is)

pub returns-in_err-check_target : goal.returns-in_err-check_target
returns-in_err-check_target c =
    let fs = c.args.frames.now in
    let targets = c.args.targets.now in
    let k = c.loop-target.target-index in
    let t = get_or targets k 0 in
    let f = c.index-frames-target.result in
    let e = c.in_err-check_target.field-0.0 in
    let lt = below_at (length fs) targets k c.requires.below c.loop-target-test.true in
    let p = err_from_is_err_and c.from_residual.result c.from_residual.ensures.1 in
    rw (p.1, p.2) (on_rule e (target_rule c.args.tail t (pair_of f) ≡ Some e) (targets_rule c.args.tail (pairs_of fs) targets ≡ Some e)
    (λ q. c.loop-target.invariant ∙ target_refused c.args.tail (pairs_of fs) targets k (pair_of f) e c.loop-target-test.true (pair_of_target fs t f lt c.index-frames-target.is) q) c.in_err-check_target.ensures)

pub loop-target-preserved : goal.loop-target-preserved
loop-target-preserved c =
    let fs = c.args.frames.now in
    let targets = c.args.targets.now in
    let k = c.loop-target.target-index in
    let t = get_or targets k 0 in
    let f = c.index-frames-target.result in
    let lt = below_at (length fs) targets k c.requires.below c.loop-target-test.true in
    c.loop-target.invariant ∙ target_passed c.args.tail (pairs_of fs) targets k (pair_of f) c.loop-target-test.true (pair_of_target fs t f lt c.index-frames-target.is) c.in_ok-check_target.ensures
