use Rattle.std.proofs.Common.{◌≡◌, ◌<◌, ◌≤◌, ◌∷◌, [], length, arith, ap, ◌∙◌}
use Rattle.std.proofs.lemmas.List.{length-append}
use Rattle.au_stream.specs.Frames.{config_of}
use Rattle.playing.proofs.PlayerSteps.{handled, handled_calm, where_played}
use Rattle.playing.proofs.StartSteps.{not_skipped, start_skipped, stands_skipped, start_follows, start_stands}
use Rattle.playing.specs.Starting.{entry_at}
use Rattle.playing.proofs.start_task.StartTask.handle.Goals as goal

pub returns-then-number-self-clause-handles : goal.returns-then-number-self-clause-handles
returns-then-number-self-clause-handles g c = λ at before f event mux st.
    let lt : length before < at = omega (arith, c.if-number-self.true, c.frame-number.ensures, event.number, st.first_is) in
    start_skipped g.C.Core.does at before f _ _ lt

pub returns-then-number-self-clause-stands : goal.returns-then-number-self-clause-stands
returns-then-number-self-clause-stands g c = λ at before f event mux st.
    let lt : length before < at = omega (arith, c.if-number-self.true, c.frame-number.ensures, event.number, st.first_is) in
    let long = length-append before (f ∷ []) in
    record {
      first_is = st.first_is;
      count = omega (arith, c.frame-number.ensures, event.number, long);
      player = stands_skipped g.C.Core.does at before f _ _ lt st.player;
    }

pub returns-clause-handles : goal.returns-clause-handles
returns-clause-handles g c = λ at before f event mux st.
    let config : c.args.mux.now.asc.usac ≡ config_of f = ap (λ m. m.asc.usac) mux in
    let n = c.frame-number.ensures ∙ event.number in
    let le : at ≤ length before = omega (arith, c.if-number-self.false, n, st.first_is) in
    let entry = c.entry_at-entry.ensures ∙ (ap (λ first. entry_at first c.frame-number.result) st.first_is ∙ ap (entry_at at) n) in
    let call = start_follows g.C.Core.does at before f c.args.mux.now.asc.usac _ c.args.self.now.frames.player le c.requires.well_formed.asc.usac config (c.as_slice-au.ensures ∙ (c.in_ok-au.ensures ∙ event.au)) c.entry_at-entry.result _ entry st.player in
    handled _ g.C.Core.does _ before f _ _ _ _ _ _ _ _ _ _ call n c.play.result st.player.going c.play.ensures.plays

pub returns-clause-calm_decodes : goal.returns-clause-calm_decodes
returns-clause-calm_decodes g c = λ at before f event mux st calm served.
    let config : c.args.mux.now.asc.usac ≡ config_of f = ap (λ m. m.asc.usac) mux in
    let n = c.frame-number.ensures ∙ event.number in
    let le : at ≤ length before = omega (arith, c.if-number-self.false, n, st.first_is) in
    let entry = c.entry_at-entry.ensures ∙ (ap (λ first. entry_at first c.frame-number.result) st.first_is ∙ ap (entry_at at) n) in
    let call = start_follows g.C.Core.does at before f c.args.mux.now.asc.usac _ c.args.self.now.frames.player le c.requires.well_formed.asc.usac config (c.as_slice-au.ensures ∙ (c.in_ok-au.ensures ∙ event.au)) c.entry_at-entry.result _ entry st.player in
    handled_calm _ g.C.Core.does _ before f _ _ _ _ _ _ _ _ _ _ call n c.play.result c.play.ensures.plays (λ takes. served takes (not_skipped at before le)) (c.play.ensures.calm_serves calm)

pub returns-clause-stands : goal.returns-clause-stands
returns-clause-stands g c = λ at before f event mux st.
    let config : c.args.mux.now.asc.usac ≡ config_of f = ap (λ m. m.asc.usac) mux in
    let n = c.frame-number.ensures ∙ event.number in
    let le : at ≤ length before = omega (arith, c.if-number-self.false, n, st.first_is) in
    let entry = c.entry_at-entry.ensures ∙ (ap (λ first. entry_at first c.frame-number.result) st.first_is ∙ ap (entry_at at) n) in
    let au = c.as_slice-au.ensures ∙ (c.in_ok-au.ensures ∙ event.au) in
    let call = start_follows g.C.Core.does at before f c.args.mux.now.asc.usac _ c.args.self.now.frames.player le c.requires.well_formed.asc.usac config au c.entry_at-entry.result _ entry st.player in
    let long = length-append before (f ∷ []) in
    where_played _ g.C.Core.does _ before f _ _ _ _ _ _ _ _ _ _ call n c.play.result
    (λ played. record {
      first_is = st.first_is;
      count = omega (arith, n, long);
      player = start_stands g.C.Core.does at before f _ _ _ le c.requires.well_formed.asc.usac config au _ _ _ _ _ _ st.player played;
    }) c.play.ensures.plays
