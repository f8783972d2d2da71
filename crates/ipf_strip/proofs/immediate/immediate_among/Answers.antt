use Rattle.std.proofs.Common.{◌≡◌, ◌++◌, ◌∷◌, [], Some, refl, sym, ◌∙◌}
use Rattle.std.specs.Prelude.{if◌then◌else◌}
use Rattle.std.proofs.lemmas.Result.{err_from_is_err_and}
use Rattle.stream_edit.specs.Frames.{pair_of, pairs_of}
use Rattle.ipf_strip.specs.Rules.{frame_rule, frames_rule}
use Rattle.ipf_strip.proofs.Judged.{on_rule}
use Rattle.ipf_strip.proofs.Places.{short_one, passed_on, refused_on, listed_on}
use Rattle.ipf_strip.proofs.immediate.immediate_among.Goals.{then-branch+in_ok-add, else-branch}
use Rattle.ipf_strip.proofs.immediate.immediate_among.Goals as goal

pub is_immediate-requires : goal.is_immediate-requires
is_immediate-requires c = rw c.index-frames-number.is (short_one c.args.frames.now c.loop-number.number c.index-frames-number.result c.requires c.loop-number-test.true)

pub returns-in_err-is_immediate : goal.returns-in_err-is_immediate
returns-in_err-is_immediate c =
    let fs = c.args.frames.now in
    let k = c.loop-number.number in
    let f = c.index-frames-number.result in
    let e = c.in_err-is_immediate.field-0.0 in
    let p = err_from_is_err_and c.from_residual.result c.from_residual.ensures.1 in
    rw (p.1, p.2) (on_rule e (frame_rule k (pair_of f) ≡ Some e) (frames_rule 0 (pairs_of fs) ≡ Some e) (λ q. c.loop-number.invariant.so_far ∙ refused_on fs k f e c.loop-number-test.true c.index-frames-number.is q) c.in_err-is_immediate.ensures)

pub loop-number-preserved : goal.loop-number-preserved
loop-number-preserved c =
    let fs = c.args.frames.now in
    let k = c.loop-number.number in
    let f = c.index-frames-number.result in
    let b = c.in_ok-is_immediate.field-0 in
    let old = c.loop-number.list.items in
    let new : c.if-branch.list.items ≡ (if b then old ++ k ∷ [] else old) = elim c.if-branch.branch [
      | then-branch+in_ok-add w ↦ rw (w.list-is, w.if-branch.true) w.in_ok-add.ensures
      | else-branch w ↦ rw (w.list-is, w.if-branch.false) refl
    ] in
    record {
      so_far = c.loop-number.invariant.so_far ∙ passed_on fs k f c.loop-number-test.true c.index-frames-number.is c.in_ok-is_immediate.ensures.0;
      list = listed_on fs k f b old c.if-branch.list.items c.loop-number-test.true c.index-frames-number.is (sym c.in_ok-is_immediate.ensures.1) new ∙ c.loop-number.invariant.list;
    }
