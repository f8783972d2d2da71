use Rattle.ipf_strip.proofs.Judged.{refused_frame}
use Rattle.ipf_strip.proofs.rules.head_of.Goals as goal

pub returns-in-Err : goal.returns-in-Err
returns-in-Err c = rw c.of_frame.ensures (refused_frame c.args.at.now.config.now c.args.at.now.au.now c.args.frame c.in-Err.fault c.in-Err.ensures)
