use Rattle.std.proofs.Common.{Option, Err, Ok, sym, subst}
use Rattle.std.specs.Prelude.{IfSome}
use Rattle.std.proofs.lemmas.Result.{err_from_is_err_and}
use Rattle.usac_cfg.specs.declared.usac_config.UsacConfig.{UsacConfig}
use Rattle.usac_cfg.specs.UsacConfig.{IsWellFormed}
use Rattle.usac_frame.specs.AccessUnit.{IsFrame}
use Rattle.usac_frame.specs.Units.{UnitValue}
use Rattle.switch_player.specs.Rules.{Refuses}
use Rattle.switch_player.specs.Turns.{IsTurn, Turns}
use Rattle.switch_player.proofs.Taken.{frame_taken}
use Rattle.switch_player.proofs.TurnLemmas.{in_step_fits, can_turn, fed_frame, stopped_frame, kept_is, turns_few}
use Rattle.switch_player.proofs.player.feed_frame.Goals as goal

pub judge-requires-clause-before_well_formed : goal.judge-requires-clause-before_well_formed
judge-requires-clause-before_well_formed g c =
    subst (λ (o : Option UsacConfig). IfSome o IsWellFormed) (sym c.as_ref.ensures.value) (in_step_fits g.C.Core.does c.args.last.now _ c.requires.in_step)

pub play_turn-requires-clause-can : goal.play_turn-requires-clause-can
play_turn-requires-clause-can g c =
    let d = g.C.Core.does in
    let t = c.in_ok-turn.turn in
    let turn : IsTurn d c.args.last.now c.args.config.now c.in_ok-frame.frame t = subst (λ (o : Option UsacConfig). IsTurn d o c.args.config.now c.in_ok-frame.frame t) c.as_ref.ensures.value c.in_ok-turn.ensures.taken in
    can_turn d g.met.C.Core.emits_blocks c.args.config.now c.in_ok-frame.frame c.args.last.now _ t turn c.requires.in_step

pub returns-in_err-play_turn-clause-answered : goal.returns-in_err-play_turn-clause-answered
returns-in_err-play_turn-clause-answered g c =
    let d = g.C.Core.does in
    let t = c.in_ok-turn.turn in
    let f = c.in_ok-frame.frame in
    let conf = c.args.config.now in
    let turn : IsTurn d c.args.last.now conf f t = subst (λ (o : Option UsacConfig). IsTurn d o conf f t) c.as_ref.ensures.value c.in_ok-turn.ensures.taken in
    let is : IsFrame conf c.args.au.now f = record { fits = c.in_ok-frame.ensures.found.0; spelled = c.in_ok-frame.ensures.found.1 } in
    let done = subst (λ (u : UnitValue). Turns (Err c.in_err-play_turn.field-0.0) d conf t u (g.C.Core.meaning c.args.core.now) (g.C.Core.meaning c.play_turn.new.core) c.args.out.now.items c.play_turn.new.out.items) c.in_ok-unit.ensures c.in_err-play_turn.ensures.turns in
    let p = err_from_is_err_and c.from_residual-in_err-play_turn.result c.from_residual-in_err-play_turn.ensures.1 in
    let takes = frame_taken d conf c.args.au.now f t c.args.last.now is turn in
    rw (p.1, p.2) (stopped_frame d g.met.C.Core.stays_sound conf c.requires.well_formed c.args.au.now f is c.args.last.now t turn (Refuses d c.args.last.now conf c.args.au.now) takes _ _ _ _ c.in_err-play_turn.field-0.0 c.requires.in_step done)

pub returns-clause-answered : goal.returns-clause-answered
returns-clause-answered g c =
    let d = g.C.Core.does in
    let t = c.in_ok-turn.turn in
    let f = c.in_ok-frame.frame in
    let conf = c.args.config.now in
    let turn : IsTurn d c.args.last.now conf f t = subst (λ (o : Option UsacConfig). IsTurn d o conf f t) c.as_ref.ensures.value c.in_ok-turn.ensures.taken in
    let is : IsFrame conf c.args.au.now f = record { fits = c.in_ok-frame.ensures.found.0; spelled = c.in_ok-frame.ensures.found.1 } in
    let done = subst (λ (u : UnitValue). Turns (Ok tt) d conf t u (g.C.Core.meaning c.args.core.now) (g.C.Core.meaning c.play_turn.new.core) c.args.out.now.items c.play_turn.new.out.items) c.in_ok-unit.ensures c.in_ok-play_turn.ensures.turns in
    let last = kept_is d conf f c.args.last.now c.keep.new.last c.in_ok-kept.kept t turn c.in_ok-kept.ensures c.keep.ensures.some c.keep.ensures.none in
    let takes = frame_taken d conf c.args.au.now f t c.args.last.now is turn in
    fed_frame d g.met.C.Core.stays_sound conf c.requires.well_formed c.args.au.now f is c.args.last.now t turn (Refuses d c.args.last.now conf c.args.au.now) takes _ _ _ _ _ c.requires.in_step last done

pub returns-in_err-play_turn-clause-few : goal.returns-in_err-play_turn-clause-few
returns-in_err-play_turn-clause-few g c = turns_few g.C.Core.does c.args.config.now c.in_ok-turn.turn c.in_ok-unit.unit _ _ _ _ (Err c.in_err-play_turn.field-0.0) c.in_err-play_turn.ensures.turns

pub returns-clause-few : goal.returns-clause-few
returns-clause-few g c = turns_few g.C.Core.does c.args.config.now c.in_ok-turn.turn c.in_ok-unit.unit _ _ _ _ (Ok tt) c.in_ok-play_turn.ensures.turns
