use Rattle.std.proofs.Common.{◌≡◌, List, ℕ, Ok, Some, refl, sym, ap, subst, ◌∙◌}
use Rattle.au_stream.specs.declared.event.Event.{Event}
use Rattle.au_stream.specs.Reading.{Reading}
use Rattle.au_stream.specs.Taking.{seen}
use Rattle.au_stream.specs.Events.{Reads}
use Rattle.au_stream.specs.Views.{event_with, next_event, after_next}
use Rattle.au_stream.proofs.reader.AuReader.take.Goals as goal

pub returns-in_default-clause-reads : goal.returns-in_default-clause-reads
returns-in_default-clause-reads g c = λ got given h. let found = rw c.in_default.is at c.in_ok-found.ensures in found.finds got given h

pub returns-clause-reads : goal.returns-clause-reads
returns-clause-reads g c = λ got given h.
    let S = g.S.Source in
    let before = seen S.left S.faults c.args.source.now in
    let now = seen S.left S.faults c.advance.new.source in
    let f = rw c.in-Some.is at c.in_ok-found.ensures in
    let found = c.in-Some.found in
    let event : next_event c.advance.new.self found.head ≡ c.into_event.result = sym (c.into_event.ensures ∙ ap (λ (x : List ℕ). event_with found.head x) (f.copied refl)) in
    subst (λ (r : Reading). Reads got given c.args.self.now r before now (Ok (Some c.into_event.result))) (sym c.pass.ensures.passed)
    (subst (λ (e : Event). Reads got given c.args.self.now (after_next c.advance.new.self) before now (Ok (Some e))) event (f.finds got given h))
