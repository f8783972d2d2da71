use Rattle.ipf_insert.specs.Steps.{refs}
use Rattle.ipf_insert.proofs.Gathered.{gathered}
use Rattle.ipf_insert.proofs.gathering.gather_slots.Goals as goal

pub returns : goal.returns
returns c = gathered c.args.same c.args.config.now (refs c.args.aus.now.items) (refs c.loop-slot.aus.items) c.args.slots.now c.loop-slot.slot-index c.loop-slot-test.false c.loop-slot.invariant.so_far c.loop-slot.invariant.all
