use Rattle.std.proofs.Common.{length, List, ℕ, ap, ◌∙◌, arith}
use Rattle.std.proofs.lemmas.Grind.{common_steps}
use Rattle.std.proofs.lemmas.Result.{err_from_is_err_and}
use Rattle.usac_frame.specs.FrameExact.{payload_small}
use Rattle.preroll.proofs.Tried.{is_opened, preroll_first}
use Rattle.preroll.proofs.carrying.read_whole.Goals as goal

pub read_preroll-requires : goal.read_preroll-requires
read_preroll-requires c = omega (arith, payload_small c.args.config.now c.args.frame.now c.requires.well_formed c.requires.fits, ap (λ (x : List ℕ). length x) c.first_payload.ensures)

pub returns-in_err-preroll-clause-refused : goal.returns-in_err-preroll-clause-refused
returns-in_err-preroll-clause-refused c =
    let p = err_from_is_err_and c.from_residual.result c.from_residual.ensures.1 in
    rw (p.1, p.2) (preroll_first c.args.config.now c.args.frame.now c.first_payload.result.now c.in_err-preroll.field-0.0 (λ e. c.if-payload_length-eq0.false (c.payload_length.ensures ∙ e)) (grind (arith, common_steps)) c.first_payload.ensures c.in_err-preroll.ensures.fault)

pub returns-clause-found : goal.returns-clause-found
returns-clause-found c =
    is_opened c.args.config.now c.args.frame.now c.in_ok-preroll.preroll c.first_payload.result.now (λ e. c.if-payload_length-eq0.false (c.payload_length.ensures ∙ e)) (grind (arith, common_steps)) c.first_payload.ensures c.in_ok-preroll.ensures.found.0 c.in_ok-preroll.ensures.found.1
