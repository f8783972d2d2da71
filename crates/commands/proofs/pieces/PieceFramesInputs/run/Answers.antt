use Rattle.commands.proofs.FilesCalled.{handed_on}
use Rattle.commands.proofs.pieces.PieceFramesInputs.run.Goals as goal

pub turn-requires : goal.turn-requires
turn-requires g c =
    let st = c.requires.ready in
    let q = c.run_source-outcome.ensures.does st.0 st.1 in
    (st.0, q.frames, _, q.holds c.in-Done.is)

pub returns-in-Done-clause-does : goal.returns-in-Done-clause-does
returns-in-Done-clause-does g c = λ at stands.
    handed_on (λ at. g.T.Task.command at g.C.Core.does) g.T.Task.then g.T.Task.plays at _ _ _ _ _ _ (λ done frames held. c.turn.ensures at frames _ held) (c.run_source-outcome.ensures.does at stands)

pub returns-in_default-clause-does : goal.returns-in_default-clause-does
returns-in_default-clause-does g c = λ at stands.
    handed_on (λ at. g.T.Task.command at g.C.Core.does) g.T.Task.then g.T.Task.plays at _ _ _ _ _ _ (λ done frames held. absurd (c.in_default.not-Done done)) (c.run_source-outcome.ensures.does at stands)
