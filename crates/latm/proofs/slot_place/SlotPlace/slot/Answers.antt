use Rattle.std.proofs.Common.{ℕ, ◌+◌, ◌*◌, ◌≤◌, length, ap, ◌∙◌, arith}
use Rattle.layout.specs.Text.{bits_of}
use Rattle.layout.proofs.TextLemmas.{length-bits_of}
use Rattle.latm.proofs.PlaceLemmas.{around, slot_taken, slot_never_short}
use Rattle.latm.proofs.slot_place.SlotPlace.slot.Goals as goal

pub unreachable-requires : goal.unreachable-requires
unreachable-requires c =
    let p = c.args.self in
    let bits = bits_of c.args.bytes.now in
    let le : p.from + 8 * p.length ≤ length bits = omega (arith, c.requires.within, length-bits_of c.args.bytes.now) in
    let exact = rw (c.in-Err-Short.is, c.in-Err-Short.field-0-is, c.from-length.ensures) at c.take_bytes.ensures.exact in
    slot_never_short bits p.from p.length c.within-reader.result c.take_bytes.new.self c.in-Err-Short.field-0-0 le (c.within-reader.ensures ∙ ap (λ (n : ℕ). around bits p.from n) c.from-length.ensures) exact

pub returns-in-Ok : goal.returns-in-Ok
returns-in-Ok c =
    let p = c.args.self in
    let bits = bits_of c.args.bytes.now in
    let le : p.from + 8 * p.length ≤ length bits = omega (arith, c.requires.within, length-bits_of c.args.bytes.now) in
    let exact = rw c.from-length.ensures at c.in-Ok.ensures.exact in
    slot_taken bits p.from p.length c.within-reader.result c.take_bytes.new.self c.in-Ok.slot le (c.within-reader.ensures ∙ ap (λ (n : ℕ). around bits p.from n) c.from-length.ensures) exact
