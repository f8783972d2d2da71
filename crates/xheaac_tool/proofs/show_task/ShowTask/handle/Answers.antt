use Rattle.std.proofs.lemmas.Result.{err_from_is_err_and}
use Rattle.usac_frame.specs.Head.{with_rest}
use Rattle.xheaac_tool.proofs.Lines.{show_unopened, show_stopped, show_did, show_unread}
use Rattle.xheaac_tool.proofs.show_task.ShowTask.handle.Goals as goal

pub returns-in_err-give_mux-clause-handles : goal.returns-in_err-give_mux-clause-handles
returns-in_err-give_mux-clause-handles g c = λ at before f event mux stands.
    let p = err_from_is_err_and c.from_residual.result c.from_residual.ensures.1 in
    rw (p.1, p.2) (show_unopened before f _ _ _ c.args.event.now c.args.mux.now c.in_err-give_mux.field-0.0 event mux (rw c.opens.ensures at c.in_err-give_mux.ensures.err))

pub returns-in_err-head-clause-handles : goal.returns-in_err-head-clause-handles
returns-in_err-head-clause-handles g c = λ at before f event mux stands.
    let p = err_from_is_err_and c.from_residual-in_err-head.result c.from_residual-in_err-head.ensures.1 in
    let reads = c.in_err-head.ensures.reads in
    rw (p.1, p.2) (show_unread before f _ _ _ c.args.event.now c.args.mux.now c.in_err-head.field-0.0 event mux reads (rw c.opens.ensures at c.in_ok-give_mux.ensures.ok))

-- what is shown of a frame is told by its head
pub returns-in_err-give_frame-clause-handles : goal.returns-in_err-give_frame-clause-handles
returns-in_err-give_frame-clause-handles g c = λ at before f event mux stands.
    let p = err_from_is_err_and c.from_residual-in_err-give_frame.result c.from_residual-in_err-give_frame.ensures.1 in
    let reads = c.in_ok-head.ensures.reads in
    rw (p.1, p.2) (show_stopped before f _ _ _ _ c.args.event.now c.args.mux.now (with_rest c.in_ok-head.head reads.0) c.in_err-give_frame.field-0.0 event mux reads.1 (rw c.opens.ensures at c.in_ok-give_mux.ensures.ok) c.in_err-give_frame.ensures.err c.in_err-give_frame.ensures.failed)

pub returns-clause-handles : goal.returns-clause-handles
returns-clause-handles g c = λ at before f event mux stands.
    let reads = c.in_ok-head.ensures.reads in
    show_did before f _ _ _ _ c.args.event.now c.args.mux.now (with_rest c.in_ok-head.head reads.0) event mux reads.1 (rw c.opens.ensures at c.in_ok-give_mux.ensures.ok) c.in_ok-give_frame.ensures.ok
