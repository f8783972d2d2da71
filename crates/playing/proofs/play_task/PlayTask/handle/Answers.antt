use Rattle.std.proofs.Common.{◌≡◌, ap, ◌∙◌}
use Rattle.au_stream.specs.Frames.{config_of}
use Rattle.playing.proofs.PlayerSteps.{handled, handled_calm, where_played}
use Rattle.playing.proofs.PlaySteps.{play_follows, play_stands}
use Rattle.playing.proofs.play_task.PlayTask.handle.Goals as goal

pub returns-clause-handles : goal.returns-clause-handles
returns-clause-handles g c = λ at before f event mux st.
    let config : c.args.mux.now.asc.usac ≡ config_of f = ap (λ m. m.asc.usac) mux in
    let call = play_follows g.C.Core.does at before f c.args.mux.now.asc.usac _ c.args.self.now.frames.player _ c.requires.well_formed.asc.usac config (c.as_slice-au.ensures ∙ (c.in_ok-au.ensures ∙ event.au)) st in
    handled _ g.C.Core.does _ before f _ _ _ _ _ _ _ _ _ _ call (c.frame.ensures ∙ event.number) c.play.result st.going c.play.ensures.plays

pub returns-clause-calm_decodes : goal.returns-clause-calm_decodes
returns-clause-calm_decodes g c = λ at before f event mux st calm served.
    let config : c.args.mux.now.asc.usac ≡ config_of f = ap (λ m. m.asc.usac) mux in
    let call = play_follows g.C.Core.does at before f c.args.mux.now.asc.usac _ c.args.self.now.frames.player _ c.requires.well_formed.asc.usac config (c.as_slice-au.ensures ∙ (c.in_ok-au.ensures ∙ event.au)) st in
    handled_calm _ g.C.Core.does _ before f _ _ _ _ _ _ _ _ _ _ call (c.frame.ensures ∙ event.number) c.play.result c.play.ensures.plays served (c.play.ensures.calm_serves calm)

pub returns-clause-stands : goal.returns-clause-stands
returns-clause-stands g c = λ at before f event mux st.
    let config : c.args.mux.now.asc.usac ≡ config_of f = ap (λ m. m.asc.usac) mux in
    let au = c.as_slice-au.ensures ∙ (c.in_ok-au.ensures ∙ event.au) in
    let call = play_follows g.C.Core.does at before f c.args.mux.now.asc.usac _ c.args.self.now.frames.player _ c.requires.well_formed.asc.usac config au st in
    where_played _ g.C.Core.does _ before f _ _ _ _ _ _ _ _ _ _ call (c.frame.ensures ∙ event.number) c.play.result
    (λ played. play_stands _ g.C.Core.does at before f _ _ _ _ _ _ _ _ c.requires.well_formed.asc.usac config au st played) c.play.ensures.plays
