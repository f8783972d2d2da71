use Rattle.std.proofs.Common.{◌≡◌, ◌∷◌, ◌++◌, [], length, subst, ◌∙◌, arith}
use Rattle.std.proofs.lemmas.List.{map-append}
use Rattle.layout.specs.Times.{times_read}
use Rattle.layout.proofs.Counted.{goes_on}
use Rattle.latm.specs.MuxElement.{slot_of_bytes}
use Rattle.latm.specs.Places.{slot_at, slots_at, IsWithin}
use Rattle.latm.proofs.PlaceLemmas.{slot_gives, push_within}
use Rattle.latm.proofs.places.find_slots.Goals as goal

pub loop-preserved : goal.loop-preserved
loop-preserved c =
    let text = c.args.reader.now.text in
    let p = c.in_ok-place.place in
    let read = c.in_ok-place.ensures.gives in
    let same = c.loop.invariant.same_text in
    let gives = slot_gives c.loop.reader c.find_slot.new.reader text p same read.0 in
    let within = subst (λ t. IsWithin (length t) p) same c.in_ok-place.ensures.within in
    let pushed = c.in_ok-push.ensures.ok in
    let slots : slots_at text (c.loop.places ++ p ∷ []) ≡ slots_at text c.loop.places ++ slot_at text p ∷ [] = map-append (slot_at text) c.loop.places (p ∷ []) in
    record {
      so_far = rw (pushed, slots) (goes_on slot_of_bytes (slots_at text c.loop.places) c.args.count c.loop.counter c.loop.reader c.find_slot.new.reader (slot_at text p) (times_read slot_of_bytes c.args.count c.args.reader.now) c.loop-test.true gives c.loop.invariant.so_far);
      same_text = read.1.0 ∙ same;
      onwards = omega (arith, read.1.1, c.loop.invariant.onwards);
      within = rw pushed (push_within (length text) c.loop.places p c.loop.invariant.within within);
    }
