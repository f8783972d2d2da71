use Rattle.std.proofs.Common.{◌≡◌, ap, ◌∙◌}
use Rattle.std.proofs.lemmas.Result.{err_from_is_err_and}
use Rattle.au_stream.specs.Frames.{config_of}
use Rattle.joining.proofs.PlanSteps.{rendition_stands, plan_stopped, plan_stands}
use Rattle.joining.proofs.plan_task.PlanTask.handle.Goals as goal

pub returns-in_err-turn-clause-handles : goal.returns-in_err-turn-clause-handles
returns-in_err-turn-clause-handles g c = λ at before f event mux st.
    let config : c.args.mux.now.asc.usac ≡ config_of f = ap (λ m. m.asc.usac) mux in
    let au = c.as_slice-au.ensures ∙ (c.in_ok-au.ensures ∙ event.au) in
    let p = err_from_is_err_and c.from_residual-in_err-turn.result c.from_residual-in_err-turn.ensures.1 in
    rw (p.1, p.2) (plan_stopped g.C.Core.does at before f c.args.mux.now.asc.usac _ c.args.self.now.renditions config au st.rendition _ _ _ c.in_err-turn.ensures.checks)

pub returns-clause-stands : goal.returns-clause-stands
returns-clause-stands g c = λ at before f event mux st.
    let config : c.args.mux.now.asc.usac ≡ config_of f = ap (λ m. m.asc.usac) mux in
    let au = c.as_slice-au.ensures ∙ (c.in_ok-au.ensures ∙ event.au) in
    let checks = c.in_ok-turn.ensures.checks in
    record {
      rendition = rendition_stands g.C.Core.does at before f c.args.mux.now.asc.usac _ c.args.self.now.renditions config au st.rendition _ checks.2 c.in_ok-turn.ensures.positions c.in_ok-turn.ensures.place;
      lead = plan_stands g.C.Core.does at before f c.args.mux.now.asc.usac _ c.args.self.now.renditions config au st.rendition c.args.self.now.lead _ _ st.lead checks.1 c.lead_behind-self.ensures;
    }
