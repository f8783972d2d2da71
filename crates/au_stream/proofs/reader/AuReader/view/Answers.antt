use Rattle.std.proofs.Common.{◌≡◌, ◌<◌, Some, length, refl, sym, ap, subst, ◌∙◌}
use Rattle.std.specs.Prelude.{slice_get, List, ℕ}
use Rattle.layout.specs.Text.{bits_of}
use Rattle.latm.specs.Places.{slot_at}
use Rattle.au_stream.specs.Reading.{Reading}
use Rattle.au_stream.specs.Views.{event_with, next_au}
use Rattle.au_stream.proofs.Held.{is_left, is_next, next_is, next_held, next_within, never_none}
use Rattle.au_stream.proofs.reader.AuReader.view.Goals as goal

pub body-requires : goal.body-requires
body-requires c =
    let i = c.self.inside in
    let lt : i.given < length i.slots = is_left i.slots i.given i.length i.frames (rw (← c.self.view_is) at c.requires) in
    (next_held i.slots i.given i.length i.count i.frames c.self.invariant.0 lt).0

pub new-requires : goal.new-requires
new-requires c =
    let i = c.self.inside in
    let here : slice_get i.slots i.given ≡ Some c.in-Some.place.now = sym c.in-Some.ensures in
    let within = next_within i.slots i.given i.length i.count i.frames c.in-Some.place.now c.body.result.now c.self.invariant.0 here c.body.ensures in
    record { within = within.1; size = within.0 }

pub unreachable-requires : goal.unreachable-requires
unreachable-requires c =
    let i = c.self.inside in
    never_none i.slots i.given (is_left i.slots i.given i.length i.frames (rw (← c.self.view_is) at c.requires)) (sym c.in_default.ensures)

pub returns : goal.returns
returns c =
    let i = c.self.inside in
    let here : slice_get i.slots i.given ≡ Some c.in-Some.place.now = sym c.in-Some.ensures in
    let au : List ℕ = slot_at (bits_of c.body.result.now) c.in-Some.place.now in
    let same : au ≡ next_au c.args.self.now = subst (λ (r : Reading). au ≡ next_au r) c.self.view_is (next_is _ au (is_next i.slots i.given i.length i.frames i.in_force i.count i.failed c.in-Some.place.now c.body.result.now au here c.body.ensures refl)) in
    c.new.ensures ∙ ap (λ (x : List ℕ). event_with c.args.head x) same
