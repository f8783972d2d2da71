use Rattle.std.proofs.Common.{refl, sym}
use Rattle.switch_player.specs.Turns.{with_carried, carried_at_start}
use Rattle.switch_player.proofs.TurnLemmas.{begins_start}
use Rattle.switch_player.proofs.turning.play_turn.Goals as goal

pub returns-in-Start-clause-turns : goal.returns-in-Start-clause-turns
returns-in-Start-clause-turns g c =
    let k = c.in-Start.carried in
    let b = c.begin.ensures.begins (with_carried c.args.config.now c.args.unit.now (carried_at_start k)) refl refl (sym c.units_at_start.ensures.units) in
    rw c.in-Start.is (begins_start g.C.Core.does c.args.config.now k c.args.unit.now _ _ _ _ c.begin.result b)
