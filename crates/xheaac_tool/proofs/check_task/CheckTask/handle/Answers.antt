use Rattle.std.proofs.Common.{◌≡◌, true, sym, ap, ◌∙◌}
use Rattle.std.proofs.lemmas.Bool.{false≢true}
use Rattle.std.proofs.lemmas.Result.{err_from_is_err_and}
use Rattle.usac_frame.specs.Head.{with_rest}
use Rattle.usac_frame.specs.Units.{is_immediate}
use Rattle.xheaac_tool.specs.Counting.{counted, KeepsRules}
use Rattle.xheaac_tool.proofs.CheckSteps.{check_unread, check_bad, check_did, good_keeps, counts_few, counts_more}
use Rattle.commands.proofs.Going.{append-none}
use Rattle.xheaac_tool.proofs.check_task.CheckTask.handle.Goals as goal
use Rattle.xheaac_tool.proofs.check_task.CheckTask.handle.Goals.{then-immediate+in_ok-judge_unit, else-immediate}

pub returns-in_err-head-clause-handles : goal.returns-in_err-head-clause-handles
returns-in_err-head-clause-handles g c = λ at before f event mux stands.
    let p = err_from_is_err_and c.from_residual.result c.from_residual.ensures.1 in
    let reads = c.in_err-head.ensures.reads in
    rw (p.1, p.2) (check_unread before f _ _ c.args.event.now c.args.mux.now c.in_err-head.field-0.0 event mux reads)

pub returns-in_err-judge_unit-clause-handles : goal.returns-in_err-judge_unit-clause-handles
returns-in_err-judge_unit-clause-handles g c = λ at before f event mux stands.
    let config = c.args.mux.now.asc.usac in
    let p = err_from_is_err_and c.from_residual-in_err-judge_unit.result c.from_residual-in_err-judge_unit.ensures.1 in
    let read = c.in_ok-head.ensures.reads in
    let bad = c.in_err-judge_unit.ensures.err in
    rw (p.1, p.2) (check_bad before f _ _ c.args.event.now c.args.mux.now (with_rest c.in_ok-head.head read.0) c.in_err-judge_unit.field-0.0 event mux read.1 (sym (c.is_immediate-immediate.ensures read.0) ∙ c.if-immediate.true) bad)

pub count-requires : goal.count-requires
count-requires g c = let s = c.requires.stands in counts_few c.args.self.now s.1 c.args.event.now.frame c.requires.few s.2 s.3

pub returns-clause-stands : goal.returns-clause-stands
returns-clause-stands g c = λ at before f event mux held.
    let reads = c.in_ok-head.ensures.reads in
    let now = c.count.ensures ∙ ap (λ b. counted b c.in_ok-head.head.independent c.is_immediate-immediate.result c.args.self.now) c.changed.ensures ∙ ap (λ b. counted c.args.event.now.changed c.in_ok-head.head.independent b c.args.self.now) (c.is_immediate-immediate.ensures reads.0) in
    counts_more c.args.self.now c.count.new.self before f c.args.event.now c.args.mux.now.asc.usac (with_rest c.in_ok-head.head reads.0) event (ap (λ m. m.asc.usac) mux) reads.1 now held

pub returns-clause-handles : goal.returns-clause-handles
returns-clause-handles g c = λ at before f event mux stands.
    let config = c.args.mux.now.asc.usac in
    let au = c.args.event.now.au in
    let read = c.in_ok-head.ensures.reads in
    let frame = with_rest c.in_ok-head.head read.0 in
    let keeps : is_immediate config frame ≡ true → KeepsRules config frame = λ now. elim c.if-immediate.branch [
      | then-immediate+in_ok-judge_unit w ↦ good_keeps config au frame read.1 w.in_ok-judge_unit.ensures.ok
      | else-immediate w ↦ absurd (false≢true (sym w.if-immediate.false ∙ c.is_immediate-immediate.ensures read.0 ∙ now))
    ] in
    check_did before f _ _ config au frame (ap (λ m. m.asc.usac) mux) event.au read.1 keeps (append-none _)
