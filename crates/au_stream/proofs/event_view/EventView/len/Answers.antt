use Rattle.std.proofs.Common.{◌∙◌, length, drop, sym, ap}
use Rattle.layout.specs.Text.{bits_of}
use Rattle.latm.proofs.PlaceLemmas.{length-bytes_in}
use Rattle.au_stream.specs.declared.event.Event.{Event}
use Rattle.au_stream.proofs.event_view.EventView.len.Goals as goal

pub returns : goal.returns
returns c =
    let i = c.self.inside in
    c.from.ensures ∙ sym (length-bytes_in i.place.length (drop i.place.from (bits_of i.element.now))) ∙ ap (λ (e : Event). length e.au) c.self.view_is
