use Rattle.std.proofs.Common.{◌<◌, ◌*◌, length, arith}
use Rattle.core_iface.proofs.Places.{next_word}
use Rattle.core_iface.proofs.fold.sum_of_places.Goals as goal

pub loop-i-preserved : goal.loop-i-preserved
loop-i-preserved c =
    let within : 64 * c.loop-i.i < length c.args.bits.now = omega (arith, c.words-words.ensures.count) in
    next_word c.args.bits.now c.loop-i.i _ c.loop-i.sum c.places_in_word.result within c.loop-i.invariant (c.words-words.ensures.each c.loop-i.i c.loop-i-test.true) c.places_in_word.ensures.places
