use Rattle.std.proofs.Common.{◌≡◌, ◌<◌, ◌+◌, ◌*◌, length, arith, rules, ◌∙◌}
use Rattle.std.specs.Int.{w16}
use Rattle.std.proofs.lemmas.Int.{to_z-of_z}
use Rattle.std.proofs.lemmas.Nat.{mul-add-lt}
use mir.Val.{SFits}
use Rattle.core_iface.proofs.Filling.{next_cell, next_row}
use Rattle.core_iface.proofs.fold.fill_rows.Goals as goal

pub loop-channel-preserved : goal.loop-channel-preserved
loop-channel-preserved c =
    let place = c.loop-time.time * c.args.channels + c.loop-channel.channel in
    let within : place < length c.loop-channel.out = omega (arith, mul-add-lt c.loop-time.time c.args.channels c.loop-channel.channel c.args.times (omega arith) (omega arith)) in
    let k : c.loop-time.time * c.args.channels + (c.loop-channel.channel + 1) ≡ place + 1 = omega arith in
    let fits : SFits w16 c.sample_at.result = search rules in
    rw k (next_cell c.loop-channel.out _ c.args.level c.loop-time.time c.loop-channel.channel place _ within c.loop-channel.invariant (to_z-of_z w16 c.sample_at.result fits ∙ c.sample_at.ensures))

pub loop-time-preserved : goal.loop-time-preserved
loop-time-preserved c = next_row c.loop-channel.out c.args.level c.args.channels c.loop-time.time c.loop-channel.channel (omega arith) c.loop-channel.invariant
