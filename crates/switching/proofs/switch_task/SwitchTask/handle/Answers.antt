use Rattle.std.proofs.Common.{◌≡◌, ap, sym, ◌∙◌}
use Rattle.std.proofs.lemmas.Result.{err_from_is_err_and}
use Rattle.au_stream.specs.Frames.{config_of}
use Rattle.playing.proofs.PlayerSteps.{handled, handled_calm, where_played}
use Rattle.joining.proofs.PlanSteps.{rendition_stands}
use Rattle.switching.proofs.SwitchSteps.{switch_memory, switch_stopped, turn_is, planned_here, switch_skips, skip_stands, switch_follows, play_stands}
use Rattle.switching.proofs.switch_task.SwitchTask.handle.Goals as goal

pub returns-in_err-au-clause-handles : goal.returns-in_err-au-clause-handles
returns-in_err-au-clause-handles g c = λ at before f event mux st.
    let p = err_from_is_err_and c.from_residual.result c.from_residual.ensures.1 in
    rw (p.1, p.2) (switch_memory g.C.Core.does at before f _ _ c.in_err-au.field-0.0)

pub returns-in_err-turn-clause-handles : goal.returns-in_err-turn-clause-handles
returns-in_err-turn-clause-handles g c = λ at before f event mux st.
    let config : c.args.mux.now.asc.usac ≡ config_of f = ap (λ m. m.asc.usac) mux in
    let au = c.as_slice-au.ensures ∙ (c.in_ok-au.ensures ∙ event.au) in
    let p = err_from_is_err_and c.from_residual-in_err-turn.result c.from_residual-in_err-turn.ensures.1 in
    rw (p.1, p.2) (switch_stopped g.C.Core.does at before f c.args.mux.now.asc.usac _ c.args.self.now _ config au st _ _ c.in_err-turn.field-0.0 c.in_err-turn.ensures.checks)

pub returns-then-not-is_given-clause-handles : goal.returns-then-not-is_given-clause-handles
returns-then-not-is_given-clause-handles g c = λ at before f event mux st.
    let config : c.args.mux.now.asc.usac ≡ config_of f = ap (λ m. m.asc.usac) mux in
    let au = c.as_slice-au.ensures ∙ (c.in_ok-au.ensures ∙ event.au) in
    let skipped = sym c.is_given.ensures ∙ c.if-not-is_given.true in
    switch_skips g.C.Core.does at before f c.args.mux.now.asc.usac _ c.args.self.now _ config au st c.in_ok-turn.turn c.feed.new.self.run c.in_ok-turn.ensures.checks _ _ skipped

pub returns-then-not-is_given-clause-stands : goal.returns-then-not-is_given-clause-stands
returns-then-not-is_given-clause-stands g c = λ at before f event mux st.
    let d = g.C.Core.does in
    let config : c.args.mux.now.asc.usac ≡ config_of f = ap (λ m. m.asc.usac) mux in
    let au = c.as_slice-au.ensures ∙ (c.in_ok-au.ensures ∙ event.au) in
    let checks = c.in_ok-turn.ensures.checks in
    let skipped = sym c.is_given.ensures ∙ c.if-not-is_given.true in
    record {
      rendition = rendition_stands d at.piece before f c.args.mux.now.asc.usac _ c.args.self.now.renditions config au st.rendition c.feed.new.self checks.2 c.in_ok-turn.ensures.positions c.in_ok-turn.ensures.place;
      player = skip_stands d at before f c.args.mux.now.asc.usac _ c.args.self.now _ config au st c.in_ok-turn.turn c.feed.new.self.run checks c.args.self.now.frames.player _ skipped st.player;
      planned = λ follows. planned_here d at before f c.args.mux.now.asc.usac _ c.args.self.now _ config au st c.in_ok-turn.turn c.feed.new.self.run checks follows c.requires.well_formed.asc.usac;
    }

pub returns-clause-handles : goal.returns-clause-handles
returns-clause-handles g c = λ at before f event mux st.
    let config : c.args.mux.now.asc.usac ≡ config_of f = ap (λ m. m.asc.usac) mux in
    let au = c.as_slice-au.ensures ∙ (c.in_ok-au.ensures ∙ event.au) in
    let given = sym c.is_given.ensures ∙ c.if-not-is_given.false in
    let call = switch_follows g.C.Core.does at before f c.args.mux.now.asc.usac _ c.args.self.now _ config au st c.in_ok-turn.turn c.feed.new.self.run c.in_ok-turn.ensures.checks c.args.self.now.frames.player _ given c.if-not-self.false c.requires.well_formed.asc.usac st.player in
    handled _ g.C.Core.does _ before f _ _ _ _ _ _ _ _ _ _ call (c.frame.ensures ∙ event.number) c.play.result st.player.going c.play.ensures.plays

pub returns-clause-calm_decodes : goal.returns-clause-calm_decodes
returns-clause-calm_decodes g c = λ at before f event mux st calm served.
    let d = g.C.Core.does in
    let config : c.args.mux.now.asc.usac ≡ config_of f = ap (λ m. m.asc.usac) mux in
    let au = c.as_slice-au.ensures ∙ (c.in_ok-au.ensures ∙ event.au) in
    let given = sym c.is_given.ensures ∙ c.if-not-is_given.false in
    let call = switch_follows d at before f c.args.mux.now.asc.usac _ c.args.self.now _ config au st c.in_ok-turn.turn c.feed.new.self.run c.in_ok-turn.ensures.checks c.args.self.now.frames.player _ given c.if-not-self.false c.requires.well_formed.asc.usac st.player in
    let here = turn_is d at before f c.args.mux.now.asc.usac _ c.args.self.now _ config au st c.in_ok-turn.turn c.feed.new.self.run c.in_ok-turn.ensures.checks in
    handled_calm _ d _ before f _ _ _ _ _ _ _ _ _ _ call (c.frame.ensures ∙ event.number) c.play.result c.play.ensures.plays (λ takes. served takes (sym here ∙ given)) (c.play.ensures.calm_serves calm)

pub returns-clause-stands : goal.returns-clause-stands
returns-clause-stands g c = λ at before f event mux st.
    let d = g.C.Core.does in
    let config : c.args.mux.now.asc.usac ≡ config_of f = ap (λ m. m.asc.usac) mux in
    let au = c.as_slice-au.ensures ∙ (c.in_ok-au.ensures ∙ event.au) in
    let checks = c.in_ok-turn.ensures.checks in
    let fits = c.requires.well_formed.asc.usac in
    let given = sym c.is_given.ensures ∙ c.if-not-is_given.false in
    let call = switch_follows d at before f c.args.mux.now.asc.usac _ c.args.self.now _ config au st c.in_ok-turn.turn c.feed.new.self.run checks c.args.self.now.frames.player _ given c.if-not-self.false fits st.player in
    where_played _ d _ before f _ _ _ _ _ _ _ _ _ _ call (c.frame.ensures ∙ event.number) c.play.result
    (λ played. record {
      rendition = rendition_stands d at.piece before f c.args.mux.now.asc.usac _ c.args.self.now.renditions config au st.rendition c.feed.new.self checks.2 c.in_ok-turn.ensures.positions c.in_ok-turn.ensures.place;
      player = play_stands d at before f c.args.mux.now.asc.usac _ c.args.self.now _ config au st c.in_ok-turn.turn c.feed.new.self.run checks _ _ _ _ _ _ _ given fits st.player played;
      planned = λ follows. planned_here d at before f c.args.mux.now.asc.usac _ c.args.self.now _ config au st c.in_ok-turn.turn c.feed.new.self.run checks follows fits;
    }) c.play.ensures.plays
