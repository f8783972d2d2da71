use Rattle.std.proofs.Common.{◌≡◌, false}
use Rattle.switch_player.specs.Feeding.{IsInStep}
use Rattle.switch_player.proofs.tests.feed_all.Given as goal

abbrev pub invariant-loop-au : goal.invariant-loop-au
invariant-loop-au g l = l.player.stopped ≡ false → IsInStep g.C.Core.does l.player.last (g.C.Core.meaning l.core).ready
