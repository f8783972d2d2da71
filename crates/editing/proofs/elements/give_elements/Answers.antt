use Rattle.std.proofs.Common.{ℕ, Err, subst, ◌∙◌}
use Rattle.std.proofs.lemmas.Result.{err_from_is_err_and}
use Rattle.commands.specs.OneFrame.{CausedBy}
use Rattle.editing.proofs.Running.{bytes_more, stopped_more, held_before, stopped_before}
use Rattle.editing.proofs.elements.give_elements.Goals as goal

pub returns-in_err-one-clause-writes : goal.returns-in_err-one-clause-writes
returns-in_err-one-clause-writes g c =
    let p = err_from_is_err_and c.from_residual.result c.from_residual.ensures.1 in
    rw (p.1, p.2) (stopped_before _ _ _ c.loop-editor.editor c.loop-editor.invariant.so_far c.in_err-one.ensures.1)

pub returns-in_err-give_one-clause-writes : goal.returns-in_err-give_one-clause-writes
returns-in_err-give_one-clause-writes g c =
    let p = err_from_is_err_and c.from_residual-in_err-give_one.result c.from_residual-in_err-give_one.ensures.1 in
    let held = held_before _ _ _ _ _ c.in_ok-one.field-0 c.in-Some.one c.in-Some.is c.in_ok-one.ensures c.loop-editor.invariant.so_far in
    rw (p.1, p.2) (stopped_more _ _ _ _ _ _ c.in_err-give_one.field-0.0 held c.in_err-give_one.ensures.writes)

pub returns-in_err-give_one-clause-caused : goal.returns-in_err-give_one-clause-caused
returns-in_err-give_one-clause-caused g c = λ core.
    let p = err_from_is_err_and c.from_residual-in_err-give_one.result c.from_residual-in_err-give_one.ensures.1 in
    rw (p.1, p.2) (subst (λ (n : ℕ). CausedBy n (g.K.Sink.faults c.give_one.new.out) core core (Err c.in_err-give_one.field-0.0)) c.loop-editor.invariant.faults (c.in_err-give_one.ensures.caused core))

pub loop-editor-preserved : goal.loop-editor-preserved
loop-editor-preserved g c = record {
  so_far = bytes_more _ _ _ _ _ _ (held_before _ _ _ _ _ c.in_ok-one.field-0 c.in-Some.one c.in-Some.is c.in_ok-one.ensures c.loop-editor.invariant.so_far) c.in_ok-give_one.ensures.writes;
  faults = (c.in_ok-give_one.ensures.caused 0).0 ∙ c.loop-editor.invariant.faults;
  calm = λ calm. c.in_ok-give_one.ensures.calm_out (c.loop-editor.invariant.calm calm);
}
