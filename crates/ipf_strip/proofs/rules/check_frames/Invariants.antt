use Rattle.std.proofs.Common.{◌≡◌, drop}
use Rattle.stream_edit.specs.Frames.{pairs_of}
use Rattle.ipf_strip.specs.Rules.{frames_rule}
use Rattle.ipf_strip.proofs.rules.check_frames.Given as goal

abbrev pub invariant-loop-number : goal.invariant-loop-number
invariant-loop-number l = frames_rule 0 (pairs_of l.fn.frames) ≡ frames_rule l.number (drop l.number (pairs_of l.frames))
