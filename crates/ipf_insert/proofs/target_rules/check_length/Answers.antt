use Rattle.std.proofs.Common.{◌≡◌, ◌%◌, List, ℕ, subst, sym, length, arith}
use Rattle.std.specs.Borrow.{Bor}
use Rattle.std.proofs.lemmas.List.{length-map}
use Rattle.latm.specs.declared.mux_element.MuxElement.{MuxElement}
use Rattle.latm.specs.Written.{element_text}
use Rattle.stream_edit.specs.Edited.{slots_in}
use Rattle.stream_edit.proofs.Whole.{whole_with}
use Rattle.ipf_insert.specs.Inserting.{target_slot}
use Rattle.ipf_insert.specs.Steps.{settled}
use Rattle.ipf_insert.proofs.MayChange.{may_here, here_few}
use Rattle.ipf_insert.proofs.target_rules.check_length.Goals as goal

pub changed-requires-clause-few : goal.changed-requires-clause-few
changed-requires-clause-few c =
    let x = c.args.sources.now in
    let few = c.requires.ready.few in
    here_few (settled x).aus c.args.element.now.slots c.args.first 4294967296 c.requires.here c.requires.below (omega (arith, few, length-map x.aus.items (λ (r : Bor (List ℕ)). r.now)))

pub changed-requires-clause-may : goal.changed-requires-clause-may
changed-requires-clause-may c = may_here c.args.sources.now c.args.targets.now c.args.first c.args.sources.now.config.now c.args.element.now.slots c.requires.ready c.requires.kept c.requires.here

pub write_element-requires-clause-whole : goal.write_element-requires-clause-whole
write_element-requires-clause-whole c =
    let e = c.args.element.now in
    subst (λ (x : MuxElement). length (element_text x) % 8 ≡ 0) (sym c.in_ok-changed.ensures) (whole_with (slots_in (target_slot (settled c.args.sources.now)) c.args.targets.now c.args.first e.slots) e c.requires.framable.whole)
