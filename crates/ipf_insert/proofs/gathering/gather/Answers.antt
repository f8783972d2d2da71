use Rattle.std.proofs.Common.{◌≡◌, ◌+◌, List, Option, drop, refl, sym, subst}
use Rattle.std.specs.Option.{option_copied}
use Rattle.std.proofs.lemmas.Result.{err_from_is_err_and}
use Rattle.layout.specs.Layout.{FitsOption}
use Rattle.latm.specs.declared.mux_config.MuxConfig.{MuxConfig}
use Rattle.latm.specs.declared.mux_element.MuxElement.{MuxElement}
use Rattle.latm.specs.MuxConfig.{IsWellFormed as IsMux}
use Rattle.latm.specs.MuxElement.{then_in_force}
use Rattle.latm.specs.Stream.{AreElements}
use Rattle.ipf_insert.specs.Steps.{IsSame, refs}
use Rattle.stream_edit.proofs.Elements.{small_slots, in_force_fits}
use Rattle.ipf_insert.proofs.Gathered.{small_only, split, refused_on, passes_on, added_on}
use Rattle.ipf_insert.proofs.gathering.gather.Goals.{in-Some, in_default}
use Rattle.ipf_insert.proofs.gathering.gather.Goals as goal

pub gather_element-requires : goal.gather_element-requires
gather_element-requires c =
    let e = c.element-item.result in
    let before = option_copied c.loop-element.in_force in
    let cut = split c.as_slice-element-items.result.now c.loop-element.element-index e c.loop-element-test.true c.element-item.is in
    let h = subst (λ (xs : List MuxElement). AreElements before xs) cut c.loop-element.invariant.elements in
    small_only e.slots (small_slots before e h.0)

pub returns-in_err-gather_element : goal.returns-in_err-gather_element
returns-in_err-gather_element c =
    let e = c.element-item.result in
    let es = c.as_slice-element-items.result.now in
    let k = c.loop-element.element-index in
    let before = option_copied c.loop-element.in_force in
    let own = option_copied c.match-element.in_force in
    let cut = split es k e c.loop-element-test.true c.element-item.is in
    let force : own ≡ then_in_force before e.config = elim c.match-element.branch [
      | in-Some w ↦ rw (w.in_force-is, w.in-Some.is) refl
      | in_default w ↦ rw (w.in_force-is, w.in_default.is) refl
    ] in
    let same : IsSame c.match-element.same c.args.first.now own = elim c.match-element.branch [
      | in-Some w ↦ rw (w.in_force-is, w.same-is) w.is_same-same.ensures
      | in_default w ↦ rw (w.in_force-is, w.same-is) c.loop-element.invariant.same
    ] in
    let p = err_from_is_err_and c.from_residual.result c.from_residual.ensures.1 in
    rw (p.1, p.2) (refused_on c.args.first.now before own (drop k es) e (drop (k + 1) es) c.match-element.same (refs c.loop-element.aus.items) cut force same c.in_err-gather_element.field-0.0 _ c.loop-element.invariant.so_far c.in_err-gather_element.ensures)

pub loop-element-preserved : goal.loop-element-preserved
loop-element-preserved c =
    let e = c.element-item.result in
    let es = c.as_slice-element-items.result.now in
    let k = c.loop-element.element-index in
    let before = option_copied c.loop-element.in_force in
    let own = option_copied c.match-element.in_force in
    let cut = split es k e c.loop-element-test.true c.element-item.is in
    let force : own ≡ then_in_force before e.config = elim c.match-element.branch [
      | in-Some w ↦ rw (w.in_force-is, w.in-Some.is) refl
      | in_default w ↦ rw (w.in_force-is, w.in_default.is) refl
    ] in
    let same : IsSame c.match-element.same c.args.first.now own = elim c.match-element.branch [
      | in-Some w ↦ rw (w.in_force-is, w.same-is) w.is_same-same.ensures
      | in_default w ↦ rw (w.in_force-is, w.same-is) c.loop-element.invariant.same
    ] in
    let h = subst (λ (xs : List MuxElement). AreElements before xs) cut c.loop-element.invariant.elements in
    let done = c.in_ok-gather_element.ensures in
    let old = refs c.loop-element.aus.items in
    let new = refs c.gather_element.new.aus.items in
    record {
      elements = subst (λ (o : Option MuxConfig). AreElements o (drop (k + 1) es)) (sym force) h.1;
      in_force = subst (λ (o : Option MuxConfig). FitsOption IsMux o) (sym force) (in_force_fits before e c.loop-element.invariant.in_force h.0);
      same = same;
      so_far = passes_on c.args.first.now before own (drop k es) e (drop (k + 1) es) c.match-element.same old cut force same new _ c.loop-element.invariant.so_far done.0 done.1;
      all = added_on c.args.first.now before own (drop k es) e (drop (k + 1) es) c.match-element.same old cut force same new _ c.loop-element.invariant.all done.1;
    }
