use Rattle.std.proofs.Common.{subst}
use Rattle.std.specs.Option.{option_copied}
use Rattle.latm.specs.Places.{FindsElement}
use Rattle.latm.proofs.PlaceLemmas.{places_read, places_first}
use Rattle.latm.proofs.places.read_places.Goals as goal

pub returns-clause-reads : goal.returns-clause-reads
returns-clause-reads c =
    let before = option_copied c.args.in_force in
    places_read before c.args.bytes.now c.find_fields.new.reader c.find_fields.result (subst (λ r. FindsElement before r c.find_fields.new.reader c.find_fields.result) c.new-reader.ensures c.find_fields.ensures)

pub returns-clause-first : goal.returns-clause-first
returns-clause-first c =
    let before = option_copied c.args.in_force in
    places_first before c.args.bytes.now c.find_fields.new.reader c.find_fields.result (subst (λ r. FindsElement before r c.find_fields.new.reader c.find_fields.result) c.new-reader.ensures c.find_fields.ensures)
