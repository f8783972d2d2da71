use Rattle.std.proofs.Common.{◌≡◌, length}
use Rattle.commands.specs.Handing.{HandedOver}
use Rattle.commands.proofs.give.give_all.Given as goal

abbrev pub invariant-pieces : goal.invariant-pieces
invariant-pieces g l =
    let sink = g.K.Sink in
    record {
      so_far : HandedOver (sink.written l.initial.out) (sink.written l.out) l.bytes l.rest;
      faults : sink.faults l.out ≡ sink.faults l.initial.out;
      calm : sink.calm l.initial.out → sink.calm l.out;
    }

abbrev pub decreases-pieces : goal.decreases-pieces
decreases-pieces g l = length l.rest
