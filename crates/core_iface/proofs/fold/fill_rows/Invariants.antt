use Rattle.std.proofs.Common.{◌≡◌, ◌+◌, ◌*◌, ◌++◌, map, take}
use Rattle.core_iface.specs.Folding.{sample, below, ramp}
use Rattle.core_iface.proofs.fold.fill_rows.Given as goal

abbrev pub invariant-loop-time : goal.invariant-loop-time
invariant-loop-time l = take (l.time * l.channels) l.out ≡ ramp l.level l.channels l.time

abbrev pub invariant-loop-channel : goal.invariant-loop-channel
invariant-loop-channel l = take (l.time * l.channels + l.channel) l.out ≡ ramp l.level l.channels l.time ++ map (sample l.level l.time) (below l.channel)
