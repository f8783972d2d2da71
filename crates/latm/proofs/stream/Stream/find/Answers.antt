use Rattle.std.proofs.Common.{◌≡◌, ◌+◌, ◌≤◌, refl, ◌∙◌, arith}
use Rattle.std.specs.Option.{option_copied}
use Rattle.latm.specs.MuxElement.{then_in_force}
use Rattle.latm.proofs.Streams.{here, behind}
use Rattle.latm.proofs.stream.Stream.find.Goals.{in-Some, in_default}
use Rattle.latm.proofs.stream.Stream.find.Goals as goal

pub returns-then-rest-count : goal.returns-then-rest-count
returns-then-rest-count c =
    let force : option_copied c.match-element.in_force ≡ then_in_force (option_copied c.loop-element.in_force) c.element-item.result.config = elim c.match-element.branch [
      | in-Some w ↦ rw (w.in_force-is, w.in-Some.is) refl
      | in_default w ↦ rw (w.in_force-is, w.in_default.is) refl
    ] in
    c.frame_in.ensures
    ∙ here (option_copied c.loop-element.in_force) (option_copied c.match-element.in_force) c.as_slice-element-items.result.now c.loop-element.element-index c.element-item.result c.element-item.result.slots c.loop-element.rest c.count_in-count.result c.loop-element-test.true c.element-item.is force refl c.count_in-count.ensures c.if-rest-count.true
    ∙ c.loop-element.invariant

pub loop-element-preserved : goal.loop-element-preserved
loop-element-preserved c =
    let force : option_copied c.match-element.in_force ≡ then_in_force (option_copied c.loop-element.in_force) c.element-item.result.config = elim c.match-element.branch [
      | in-Some w ↦ rw (w.in_force-is, w.in-Some.is) refl
      | in_default w ↦ rw (w.in_force-is, w.in_default.is) refl
    ] in
    let above : c.count_in-count.result ≤ c.loop-element.rest = omega (arith, c.if-rest-count.false) in
    behind (option_copied c.loop-element.in_force) (option_copied c.match-element.in_force) c.as_slice-element-items.result.now c.loop-element.element-index (c.loop-element.element-index + 1) c.element-item.result c.element-item.result.slots c.loop-element.rest c.count_in-count.result c.loop-element-test.true c.element-item.is force refl c.count_in-count.ensures above (omega arith)
    ∙ c.loop-element.invariant
