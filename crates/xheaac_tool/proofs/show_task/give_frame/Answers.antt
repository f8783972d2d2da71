use Rattle.std.proofs.Common.{length, arith}
use Rattle.std.proofs.lemmas.Result.{on_ok_weaker, on_err_weaker, err_from_is_err_and}
use Rattle.usac_frame.specs.FrameExact.{payload_small}
use Rattle.tool_text.specs.FrameText.{frame_line}
use Rattle.xheaac_tool.specs.Showing.{preroll_where}
use Rattle.commands.proofs.Handing.{less_part, less_behind, less_in_front, part_behind}
use Rattle.xheaac_tool.proofs.Lines.{both_all}
use Rattle.xheaac_tool.proofs.show_task.give_frame.Goals as goal

pub returns-in_err-give_line-clause-err : goal.returns-in_err-give_line-clause-err
returns-in_err-give_line-clause-err g c =
    let p = err_from_is_err_and c.from_residual.result c.from_residual.ensures.1 in
    let event = c.args.event.now in
    let line = frame_line event.frame (length event.au) c.args.frame.now in
    rw p.1 (less_part _ _ _ (less_in_front _ _ line (preroll_where c.args.config.now c.args.frame.now) c.in_err-give_line.ensures.err))

pub returns-in_err-give_line-clause-failed : goal.returns-in_err-give_line-clause-failed
returns-in_err-give_line-clause-failed g c = λ failed.
    let event = c.args.event.now in
    let line = frame_line event.frame (length event.au) c.args.frame.now in
    less_in_front _ _ line (preroll_where c.args.config.now c.args.frame.now) c.in_err-give_line.ensures.err

pub give_preroll-requires : goal.give_preroll-requires
give_preroll-requires g c = omega (arith, payload_small c.args.config.now c.args.frame.now c.requires.well_formed c.requires.fits)

pub returns-clause-ok : goal.returns-clause-ok
returns-clause-ok g c =
    let event = c.args.event.now in
    let line = frame_line event.frame (length event.au) c.args.frame.now in
    on_ok_weaker c.give_preroll.result (λ h. both_all _ _ _ line (preroll_where c.args.config.now c.args.frame.now) c.in_ok-give_line.ensures.ok h) c.give_preroll.ensures.ok

pub returns-clause-err : goal.returns-clause-err
returns-clause-err g c =
    let event = c.args.event.now in
    let line = frame_line event.frame (length event.au) c.args.frame.now in
    on_err_weaker c.give_preroll.result (λ h. part_behind _ _ _ line (preroll_where c.args.config.now c.args.frame.now) c.in_ok-give_line.ensures.ok h) c.give_preroll.ensures.err

pub returns-clause-failed : goal.returns-clause-failed
returns-clause-failed g c = λ failed.
    let event = c.args.event.now in
    let line = frame_line event.frame (length event.au) c.args.frame.now in
    less_behind _ _ _ line (preroll_where c.args.config.now c.args.frame.now) c.in_ok-give_line.ensures.ok (c.give_preroll.ensures.failed failed)
