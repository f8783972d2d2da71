use Rattle.std.proofs.Common.{◌≡◌, Option, Bool, false, sym, ap, ◌∙◌}
use Rattle.usac_cfg.specs.declared.usac_config.UsacConfig.{UsacConfig}
use Rattle.switch_player.specs.PlayerValue.{PlayerValue}
use Rattle.switch_player.specs.Rules.{Refuses}
use Rattle.switch_player.proofs.TurnLemmas.{feeds_so}
use Rattle.switch_player.proofs.player.Player.feed.Goals as goal

pub returns-clause-feeds : goal.returns-clause-feeds
returns-clause-feeds g c =
    let d = g.C.Core.does in
    let conf = c.args.config.now in
    let last = c.self.inside.last in
    let was : PlayerValue = record { last = last; stopped = false } in
    let stands : c.args.self.now ≡ was = sym c.self.view_is ∙ ap (λ (b : Bool). let v : PlayerValue = record { last = last; stopped = b } in v) c.if-self.false in
    let call = c.feed_frame-answer in
    feeds_so call.result (λ (o : Option UsacConfig). Refuses d o conf c.args.au.now) d conf c.args.au.now c.args.self.now last call.new.last c.stops-self-inside.result _ _ _ _ stands c.stops-self-inside.ensures call.ensures.answered call.ensures.faults call.ensures.few c.requires.in_step
