use Rattle.std.proofs.Common.{ℕ, ◌≤◌, ◌+◌, ◌*◌, ◌∙◌, length, drop, take, sym, ap, arith}
use Rattle.std.proofs.lemmas.List.{length-drop, drop-take}
use Rattle.layout.specs.Text.{bits_of}
use Rattle.layout.specs.Reader.{Reader, left}
use Rattle.layout.proofs.TextLemmas.{length-bits_of}
use Rattle.latm.proofs.PlaceLemmas.{bits_of-bytes_in}
use Rattle.au_stream.specs.declared.event.Event.{Event}
use Rattle.au_stream.proofs.event_view.EventView.reader.Goals as goal

pub returns : goal.returns
returns c =
    let i = c.self.inside in
    let from = i.place.from in
    let bits = bits_of i.element.now in
    let within = c.self.invariant.0 in
    let some : 8 * i.place.length ≤ length (drop from bits) = omega (arith, within, length-drop from bits, length-bits_of i.element.now) in
    ap (λ (r : Reader). left r) c.within.ensures
    ∙ ap (λ (n : ℕ). drop from (take (from + 8 * n) bits)) c.from.ensures
    ∙ drop-take from (8 * i.place.length) bits
    ∙ sym (bits_of-bytes_in i.place.length (drop from bits) some)
    ∙ ap (λ (e : Event). bits_of e.au) c.self.view_is
