use Rattle.std.proofs.Common.{◌≡◌, ℕ, ◌-◌, length, take, drop, sym, ap, subst, ◌∙◌}
use Rattle.std.specs.Option.{option_copied}
use Rattle.stream_edit.specs.Edited.{element_in}
use Rattle.stream_edit.specs.Giving.{given, IsWritable}
use Rattle.stream_edit.specs.Targets.{has_target}
use Rattle.stream_edit.proofs.Placed.{kept_element}
use Rattle.stream_edit.proofs.Standing.{cut_first, force, first_writable, left_on}
use Rattle.stream_edit.proofs.editor.Editor.next.Goals.{then-has_target+in_ok-new, else-has_target}
use Rattle.stream_edit.proofs.editor.Editor.next.Goals as goal

pub in_force_of-in_force-requires : goal.in_force_of-in_force-requires
in_force_of-in_force-requires g c =
    let i = c.self.inside in
    let es = i.elements.now in
    let e = c.element-item.result in
    force (g.C.Change.new i.change) (g.C.Change.May i.change) i.targets.now i.first (option_copied i.in_force) es (take (length es - 1) (drop 1 es)) e c.self.invariant (cut_first es e c.in-len1-up.len_at_least c.element-item.is)

pub returns : goal.returns
returns g c =
    let i = c.self.inside in
    let make = g.C.Change.new i.change in
    let may = g.C.Change.May i.change in
    let es = i.elements.now in
    let e = c.element-item.result in
    let before = option_copied i.in_force in
    let behind = take (length es - 1) (drop 1 es) in
    let cut = cut_first es e c.in-len1-up.len_at_least c.element-item.is in
    let it = given c.if-has_target.given in
    let made : it ≡ element_in make i.targets.now i.first e = elim c.if-has_target.branch [
      | then-has_target+in_ok-new w ↦ ap given w.given-is ∙ w.in_ok-new.ensures
      | else-has_target w ↦ ap given w.given-is ∙ kept_element make i.targets.now i.first e (sym (c.has_target.ensures ∙ ap (λ (n : ℕ). has_target i.targets.now i.first n) c.len-count.ensures) ∙ w.if-has_target.false)
    ] in (
      sym c.self.view_is ∙ left_on make may i.targets.now i.first before es behind e c.self.invariant cut c.len-count.result it c.len-count.ensures made,
      subst IsWritable (sym made) (first_writable make may i.targets.now i.first before es behind e c.self.invariant cut),
    )
