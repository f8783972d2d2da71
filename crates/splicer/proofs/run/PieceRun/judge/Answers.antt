use Rattle.std.proofs.Common.{List, subst}
use Rattle.usac_frame.specs.Units.{UnitValue}
use Rattle.plans.specs.Coded.{Coded}
use Rattle.splicer.specs.Rules.{later_fault}
use Rattle.splicer.specs.Runs.{RunValue, fault}
use Rattle.splicer.specs.Steps.{Judges, IsJudged, IsJudgedLater}
use Rattle.splicer.proofs.Frames.{judged_behind}
use Rattle.splicer.proofs.run.PieceRun.judge.Goals as goal

pub returns-in_ok-check_change-in-Some : goal.returns-in_ok-check_change-in-Some
returns-in_ok-check_change-in-Some c =
    let i = c.self.inside in
    let run : RunValue = record { asked = i.asked; first = i.first; frames = i.frames; kept = i.kept.items; ended = i.ended } in
    let f : Coded = record { config = c.args.config.now; au = c.args.au.now } in
    let P : List UnitValue → Type 0 = λ us. Judges c.judge_later.result (later_fault i.asked i.frames us c.args.need f) (λ j. IsJudgedLater j i.asked i.frames f) in
    let Q : RunValue → Type 0 = λ v. Judges c.judge_later.result (fault v c.args.need f) (λ j. IsJudged j v.asked v.first v.frames f) in
    subst Q c.self.view_is (judged_behind run c.in-Some.first c.args.need f c.judge_later.result c.in-Some.is c.in_ok-check_change-in-Some.ensures (subst P c.deref.ensures.value c.judge_later.ensures))
