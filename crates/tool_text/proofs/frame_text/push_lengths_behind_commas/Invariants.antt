use Rattle.std.proofs.Common.{◌≡◌, ◌++◌, take}
use Rattle.tool_text.specs.FrameText.{lengths_behind_commas}
use Rattle.tool_text.proofs.frame_text.push_lengths_behind_commas.Given as goal

abbrev pub invariant-loop-part : goal.invariant-loop-part
invariant-loop-part l = l.line.items ≡ l.fn.line.items ++ lengths_behind_commas (take l.part-index l.parts)
