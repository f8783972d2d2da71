use Rattle.std.proofs.Common.{◌≡◌, ◌++◌, take}
use Rattle.std.specs.String.{string_bytes}
use Rattle.tool_text.specs.Parts.{behind_commas}
use Rattle.tool_text.proofs.parts.push_behind_commas.Given as goal

abbrev pub invariant-loop-number : goal.invariant-loop-number
invariant-loop-number l = string_bytes l.text ≡ string_bytes l.fn.text ++ behind_commas (take l.number-index l.numbers)
