use Rattle.std.proofs.Common.{◌+◌, ◌-◌, ◌∙◌, Bool, ap, sym}
use Rattle.std.specs.Prelude.{◌||◌}
use Rattle.stream_edit.specs.Targets.{has_target}
use Rattle.stream_edit.proofs.Placed.{has_on}
use Rattle.stream_edit.proofs.targets.has_target.Goals as goal

pub returns-then-is_target : goal.returns-then-is_target
returns-then-is_target c =
    let t = c.args.targets.now in
    let f = c.loop-frame.frame in
    let last = c.args.first + c.args.count in
    sym (c.loop-frame.invariant ∙ has_on t f last c.loop-frame-test.true ∙ ap (λ (b : Bool). b || has_target t (f + 1) (last - (f + 1))) (sym c.is_target.ensures ∙ c.if-is_target.true))

pub loop-frame-preserved : goal.loop-frame-preserved
loop-frame-preserved c =
    let t = c.args.targets.now in
    let f = c.loop-frame.frame in
    let last = c.args.first + c.args.count in
    c.loop-frame.invariant ∙ has_on t f last c.loop-frame-test.true ∙ ap (λ (b : Bool). b || has_target t (f + 1) (last - (f + 1))) (sym c.is_target.ensures ∙ c.if-is_target.false)
