use Rattle.std.proofs.Common.{◌≡◌, ℕ, List, [], false, Option, length, drop, refl, sym, ap, subst, arith}
use Rattle.layout.specs.Text.{bits_of}
use Rattle.loas.proofs.Given.{begins-length}
use Rattle.latm.specs.declared.mux_config.MuxConfig.{MuxConfig}
use Rattle.latm.specs.Faults.{is_memory}
use Rattle.latm.specs.MuxElement.{element}
use Rattle.latm.specs.Places.{HasPlaces}
use Rattle.au_stream.specs.declared.fault.StreamFault.{StreamFault}
use Rattle.au_stream.specs.Reading.{Reading}
use Rattle.au_stream.specs.Giving.{Unread, refused_element}
use Rattle.au_stream.proofs.Held.{no_slots, front_here, found, holds_found, unread, well_formed, some_pending}
use Rattle.au_stream.proofs.reader.AuReader.find_slots.Goals as goal

pub body-requires : goal.body-requires
body-requires c =
    let i = c.self.inside in
    let left = drop i.given i.slots in
    front_here left i.length c.args.n i.frames (no_slots left i.length i.frames (rw (← c.self.view_is) at c.requires.none)) (rw (← c.self.view_is) at c.requires.here)

pub read_places-requires : goal.read_places-requires
read_places-requires c =
    let i = c.self.inside in
    let left = drop i.given i.slots in
    let b = front_here left i.length c.args.n i.frames (no_slots left i.length i.frames (rw (← c.self.view_is) at c.requires.none)) (rw (← c.self.view_is) at c.requires.here) in
    omega (arith, ap (λ (x : List ℕ). length x) c.body.ensures, begins-length c.args.n i.frames.held b, b.fits)

pub returns-in-Err : goal.returns-in-Err
returns-in-Err c =
    let i = c.self.inside in
    let left = drop i.given i.slots in
    let f = c.in-Err.fault in
    let none : left ≡ [] = no_slots left i.length i.frames (rw (← c.self.view_is) at c.requires.none) in
    let bad = subst (λ (o : Option MuxConfig). is_memory f ≡ false → (let L = element o in L.Faults 0 f (bits_of c.body.result.now))) c.as_ref.ensures.value c.in-Err.ensures.reads in
    let here : Unread c.args.n c.args.self.now (refused_element i.count f) = subst (λ (r : Reading). Unread c.args.n r (refused_element i.count f)) c.self.view_is (unread left i.length c.args.n i.frames i.in_force i.count i.failed c.body.result.now f none c.body.ensures bad) in
    record { finds = (refl, subst (λ (x : StreamFault). Unread c.args.n c.args.self.now x) (sym c.refused.ensures) here); some = tt; well_formed = tt }

pub invariant_of-self : goal.invariant_of-self
invariant_of-self c =
    let i = c.self.inside in
    let v = c.self.invariant in
    let left = drop i.given i.slots in
    let none : left ≡ [] = no_slots left i.length i.frames (rw (← c.self.view_is) at c.requires.none) in
    let b = front_here left i.length c.args.n i.frames none (rw (← c.self.view_is) at c.requires.here) in
    let has = subst (λ (o : Option MuxConfig). HasPlaces o c.body.result.now c.in-Ok.places) c.as_ref.ensures.value c.in-Ok.ensures.reads in
    (holds_found left i.length c.args.n i.count i.frames i.in_force c.body.result.now c.in-Ok.places none c.body.ensures b has v.0.counted, v.1, v.2)

pub returns-clause-finds : goal.returns-clause-finds
returns-clause-finds c =
    let i = c.self.inside in
    let left = drop i.given i.slots in
    let none : left ≡ [] = no_slots left i.length i.frames (rw (← c.self.view_is) at c.requires.none) in
    let has = subst (λ (o : Option MuxConfig). HasPlaces o c.body.result.now c.in-Ok.places) c.as_ref.ensures.value c.in-Ok.ensures.reads in
    rw (← c.self.view_is) (found left i.length c.args.n i.frames i.in_force i.count i.failed c.body.result.now c.in-Ok.places none c.body.ensures has)

pub returns-clause-some : goal.returns-clause-some
returns-clause-some c =
    let i = c.self.inside in
    let has = subst (λ (o : Option MuxConfig). HasPlaces o c.body.result.now c.in-Ok.places) c.as_ref.ensures.value c.in-Ok.ensures.reads in
    some_pending i.in_force c.body.result.now c.in-Ok.places c.args.n i.frames has

pub returns-clause-well_formed : goal.returns-clause-well_formed
returns-clause-well_formed c =
    let i = c.self.inside in
    let has = subst (λ (o : Option MuxConfig). HasPlaces o c.body.result.now c.in-Ok.places) c.as_ref.ensures.value c.in-Ok.ensures.reads in
    well_formed i.in_force c.body.result.now c.in-Ok.places has
