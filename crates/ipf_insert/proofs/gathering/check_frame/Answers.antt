use Rattle.std.proofs.Common.{ap}
use Rattle.usac_frame.specs.Head.{with_rest}
use Rattle.ipf_insert.specs.Rules.{short_rule}
use Rattle.ipf_insert.proofs.Frames.{not_short, refused_frame}
use Rattle.ipf_insert.proofs.gathering.check_frame.Goals.{in-Ok, in-Err}
use Rattle.ipf_insert.proofs.gathering.check_frame.Goals as goal

pub returns : goal.returns
returns c = elim c.match-read_head.branch [
  | in-Ok w ↦ rw w.result-is (ap (short_rule c.args.frame) (not_short c.args.config.now c.args.au.now (with_rest w.in-Ok.field-0 w.in-Ok.ensures.0) w.in-Ok.ensures.1))
  | in-Err w ↦ rw (w.result-is, w.of_frame.ensures) (refused_frame c.args.config.now c.args.au.now c.args.frame w.in-Err.fault w.in-Err.ensures)
]
