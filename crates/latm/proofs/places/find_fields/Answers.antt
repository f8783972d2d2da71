use Rattle.std.proofs.Common.{◌∙◌, sym, subst, Ok, Err}
use Rattle.std.specs.Option.{option_copied}
use Rattle.std.proofs.lemmas.Result.{err_from_is_err_and}
use Rattle.layout.specs.Reading.{GivesUnless}
use Rattle.latm.specs.Faults.{is_memory}
use Rattle.latm.specs.MuxElement.{opening}
use Rattle.latm.proofs.PlaceLemmas.{copied_some, element_found, element_unopened, element_lacks_body}
use Rattle.latm.proofs.places.find_fields.Goals as goal

pub returns : goal.returns
returns c =
    let before = option_copied c.args.in_force in
    let opened = subst (λ b. GivesUnless is_memory (opening b) c.args.reader.now c.read_opening.new.reader (Ok c.in_ok-config.config)) (c.is_some.ensures ∙ sym (copied_some c.args.in_force)) c.in_ok-config.ensures in
    element_found before c.args.reader.now c.read_opening.new.reader c.find_own_body.new.reader c.in_ok-config.config c.in_ok-slots.slots opened c.in_ok-slots.ensures

pub returns-in_err-config : goal.returns-in_err-config
returns-in_err-config c =
    let before = option_copied c.args.in_force in
    let f = c.in_err-config.field-0.0 in
    let p = err_from_is_err_and c.from_residual.result c.from_residual.ensures.1 in
    let opened = subst (λ b. GivesUnless is_memory (opening b) c.args.reader.now c.read_opening.new.reader (Err f)) (c.is_some.ensures ∙ sym (copied_some c.args.in_force)) c.in_err-config.ensures in
    rw (p.1, p.2) (element_unopened before c.args.reader.now c.read_opening.new.reader f opened)

pub returns-in_err-slots : goal.returns-in_err-slots
returns-in_err-slots c =
    let before = option_copied c.args.in_force in
    let f = c.in_err-slots.field-0.0 in
    let p = err_from_is_err_and c.from_residual-in_err-slots.result c.from_residual-in_err-slots.ensures.1 in
    let opened = subst (λ b. GivesUnless is_memory (opening b) c.args.reader.now c.read_opening.new.reader (Ok c.in_ok-config.config)) (c.is_some.ensures ∙ sym (copied_some c.args.in_force)) c.in_ok-config.ensures in
    rw (p.1, p.2) (element_lacks_body before c.args.reader.now c.read_opening.new.reader c.find_own_body.new.reader c.in_ok-config.config f opened c.in_err-slots.ensures)
