use Rattle.std.proofs.Common.{ℕ, true, false, List, Option, Some, None, Ok, sym, subst, ◌∙◌}
use Rattle.usac_frame.specs.Head.{with_rest}
use Rattle.stream_edit.specs.Frames.{pair_of}
use Rattle.ipf_frame.specs.Stripping.{may_strip, stripped_slot, Strips}
use Rattle.ipf_strip.proofs.Judged.{immediate_is, not_immediate, judged_by}
use Rattle.ipf_strip.proofs.rules.check_target.Goals as goal

pub returns-then-not-is_immediate : goal.returns-then-not-is_immediate
returns-then-not-is_immediate c =
    let f = c.args.at.now in
    let h = c.in_ok-head.ensures in
    not_immediate c.args.tail c.args.target (pair_of f) (immediate_is f.config.now f.au.now (with_rest c.in_ok-head.head h.0) h.1 ∙ sym (c.is_immediate.ensures h.0) ∙ c.if-not-is_immediate.true)

pub without_preroll-requires-clause-is : goal.without_preroll-requires-clause-is
without_preroll-requires-clause-is c =
    let h = c.in_ok-head.ensures in
    (with_rest c.in_ok-head.head h.0, h.1, sym (c.is_immediate.ensures h.0) ∙ c.if-not-is_immediate.false)

pub returns-in-Some : goal.returns-in-Some
returns-in-Some c =
    let f = c.args.at.now in
    let h = c.in_ok-head.ensures in
    judged_by c.args.tail c.args.target (pair_of f) true (immediate_is f.config.now f.au.now (with_rest c.in_ok-head.head h.0) h.1 ∙ sym (c.is_immediate.ensures h.0) ∙ c.if-not-is_immediate.false) (let may : Strips (Ok (Some c.in-Some.field-0)) (may_strip c.args.tail f.config.now f.au.now) (stripped_slot c.args.tail f.config.now f.au.now) = subst (λ (o : Option (List ℕ)). Strips (Ok o) (may_strip c.args.tail f.config.now f.au.now) (stripped_slot c.args.tail f.config.now f.au.now)) c.in-Some.is c.in_ok-without_preroll.ensures in may.0)

pub returns : goal.returns
returns c =
    let f = c.args.at.now in
    let h = c.in_ok-head.ensures in
    judged_by c.args.tail c.args.target (pair_of f) false (immediate_is f.config.now f.au.now (with_rest c.in_ok-head.head h.0) h.1 ∙ sym (c.is_immediate.ensures h.0) ∙ c.if-not-is_immediate.false) (let may : Strips (Ok None) (may_strip c.args.tail f.config.now f.au.now) (stripped_slot c.args.tail f.config.now f.au.now) = subst (λ (o : Option (List ℕ)). Strips (Ok o) (may_strip c.args.tail f.config.now f.au.now) (stripped_slot c.args.tail f.config.now f.au.now)) c.in-None.is c.in_ok-without_preroll.ensures in may)
